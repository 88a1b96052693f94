-- Rows that a stable sort by a number of their paths brings into another order make the same map.
use Rattle.std.specs.Prelude.{◌≡◌, ℕ, Bool, true, false, cond, not, ◌&&◌, List, [], ◌∷◌, Option, Some, filter, refl}
use Rattle.std.proofs.Common.{sym, ◌∙◌, ap, rules}
use Rattle.std.proofs.lemmas.Bool.{false≢true}
use Rattle.std.specs.declared.cmp.Ordering.{Ordering}
use Rattle.std.specs.declared.cmp.Ordering.TheVariants.{Less, Equal, Greater}
use Rattle.std.specs.Ordering.{eq_by_cmp, is_lt, is_eq, nat_cmp}
use Rattle.std.specs.Cmp.{IsTotalOrder}
use Rattle.std.specs.Fn.{Mut, Called, ReturnsEach, AlwaysReturns}
use Rattle.std.specs.List.Sorted.{IsStableByKey, ties}
use Rattle.std.specs.FinMap.{FinMap, IsAntisymmetric, get, insert, empty, same_map, get-insert}
use Rattle.nm_config.specs.Rows.{with_entries}

equal : (r : Ordering) → is_eq r ≡ true → r ≡ Equal
equal Less h = cc
equal Equal h = refl
equal Greater h = cc

not_before_itself : (n : ℕ) → is_lt (nat_cmp n n) ≡ false
not_before_itself n = search rules

-- two of one number tie
tied : (m n : ℕ) → m ≡ n → (not (is_lt (nat_cmp m n)) && not (is_lt (nat_cmp n m))) ≡ true
tied m n e = ap (λ k. not (is_lt (nat_cmp m k)) && not (is_lt (nat_cmp k m))) (sym e) ∙ ap (λ b. not b && not b) (not_before_itself m)

module _ {K X : Type 0} {R : K → K → Ordering} (o : IsTotalOrder R) where
  one_kept : (p : K × X → Bool) (q : K) (x : K × X) (es : List (K × X))
      → ((m n : FinMap R X) → get m q ≡ get n q → get (with_entries m es) q ≡ get (with_entries n (filter p es)) q)
      → (eq_by_cmp R q x.0 ≡ true → p x ≡ true)
      → (m n : FinMap R X) → get m q ≡ get n q → (kept : Bool) → p x ≡ kept → (here : Bool) → eq_by_cmp R q x.0 ≡ here
      → get (with_entries m (x ∷ es)) q ≡ get (with_entries n (filter p (x ∷ es))) q
  one_kept p q x es more h m n e true k here t = more (insert m x.0 x.1) (insert n x.0 x.1)
      (get-insert o m x.0 x.1 q ∙ ap (cond (eq_by_cmp R q x.0) (Some x.1)) e ∙ sym (get-insert o n x.0 x.1 q))
      ∙ ap (λ b. get (with_entries n (cond b (x ∷ filter p es) (filter p es))) q) (sym k)
  one_kept p q x es more h m n e false k true t = absurd (false≢true (sym k ∙ h t))
  one_kept p q x es more h m n e false k false t = more (insert m x.0 x.1) n
      (get-insert o m x.0 x.1 q ∙ ap (λ b. cond b (Some x.1) (get m q)) t ∙ e)
      ∙ ap (λ b. get (with_entries n (cond b (x ∷ filter p es) (filter p es))) q) (sym k)

  -- what a map with more entries has at a key is told by those that a test keeps, if it keeps those at the key
  get-with_kept : (p : K × X → Bool) (q : K) → ((e : K × X) → eq_by_cmp R q e.0 ≡ true → p e ≡ true) → (es : List (K × X)) (m n : FinMap R X)
      → get m q ≡ get n q → get (with_entries m es) q ≡ get (with_entries n (filter p es)) q
  get-with_kept p q h [] m n e = e
  get-with_kept p q h (x ∷ es) m n e = one_kept p q x es (get-with_kept p q h es) (h x) m n e (p x) refl (eq_by_cmp R q x.0) refl

  -- a stable sort by a number of the keys leaves the map of the entries as it is
  pub same_entries : IsAntisymmetric R → X → (number : K → ℕ) (es fs : List (K × X)) → IsStableByKey (λ (e : K × X). number e.0) nat_cmp es fs
      → with_entries (empty {R = R}) fs ≡ with_entries empty es
  same_entries exact v number es fs stable = same_map o exact _ _ (λ q.
      let test : K × X → Bool = ties (λ (x y : K × X). is_lt (nat_cmp (number x.0) (number y.0))) (q, v) in
      let at : (e : K × X) → eq_by_cmp R q e.0 ≡ true → test e ≡ true = λ e t. tied (number q) (number e.0) (ap number (exact q e.0 (equal (R q e.0) t))) in
      get-with_kept test q at fs empty empty refl
      ∙ ap (λ (l : List (K × X)). get (with_entries (empty {R = R}) l) q) (stable (q, v))
      ∙ sym (get-with_kept test q at es empty empty refl))

-- where each call of a closure answers so, all calls do
module _ {F X R : Type 0} (g : Mut F X R) (P : X → R → Type 0) (each : (f : F) (a : X) (r : R) (f' : F) → Called g f a r f' → P a r) where
  answering : (xs : List X) (f : F) → ReturnsEach g P f xs
  answering [] f = tt
  answering (a ∷ xs) f = λ r f' c. (each f a r f' c, answering xs f')

  pub answers_always : (f : F) → AlwaysReturns g P f
  answers_always f = record { at = λ xs. answering xs f }
