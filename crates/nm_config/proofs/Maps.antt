-- The entries of a `BTreeMap` as a finite map.
use Rattle.std.specs.Prelude.{◌≡◌, ◌↔◌, ℕ, length, IsTrue, nat_eq, Bool, true, false, cond, ◌&&◌, List, [], ◌∷◌, Option, Some, None, filter, refl}
use Rattle.std.proofs.Common.{sym, ◌∙◌, ap, subst, eq-eqb}
use Rattle.std.proofs.Math.Dec.{eqb→eq}
use lib.Dec.{T}
use Rattle.std.specs.declared.cmp.Ordering.{Ordering}
use Rattle.std.specs.declared.cmp.Ordering.TheVariants.{Less, Equal, Greater}
use Rattle.std.specs.Ordering.{eq_by_cmp, is_lt, is_eq}
use Rattle.std.specs.Cmp.{IsTotalOrder, eq_by_cmp_equiv}
use Rattle.std.specs.List.{AllByRecursion}
use Rattle.std.specs.List.Sorted.{IsStrictlySortedBy}
use Rattle.std.specs.Map.{lookup, keys_of, update, update_all}
use Rattle.std.specs.BTreeMap.{is_at}
use Rattle.std.specs.FinMap.{FinMap, IsAntisymmetric, get, insert, remove, get-remove, entries, empty, len, retain_keys, get-retain_keys, entries_sorted, get-entries, get-empty, len-entries, len-empty, empty_of_len, from_entries, from_sorted, same_map, get-from_entries, get-insert, get-from_sorted, entries-from_sorted}
use Rattle.std.specs.FinMap.Entries.{find, is_sorted, below_all}
use Rattle.std.specs.Option.{option_or}
use Rattle.nm_config.specs.Rows.{with_entries}
use Rattle.std.proofs.lemmas.Map.Entries.{lookup-filter-keys}

both : (a b : Bool) → T a → T b → T (a && b)
both true b p q = q
both false b p q = absurd p

equal : (r : Ordering) → is_eq r ≡ true → r ≡ Equal
equal Less h = cc
equal Equal h = refl
equal Greater h = cc

apart : (r : Ordering) → T (is_lt r) → is_eq r ≡ false
apart Less h = refl
apart Equal h = absurd h
apart Greater h = absurd h

first : (a b : Bool) → T (a && b) → T a
first true b p = tt
first false b p = p

second : (a b : Bool) → T (a && b) → T b
second true b p = p
second false b p = absurd p

later : {X : Type 0} (b : Bool) (x : X) (found had : Option X) → (b ≡ true → found ≡ None) → option_or found (cond b (Some x) had) ≡ option_or (cond b (Some x) found) had
later true x found had h = ap (λ o. option_or o (Some x)) (h refl)
later false x found had h = refl

or_none : {X : Type 0} (o : Option X) → option_or o None ≡ o
or_none None = refl
or_none (Some x) = refl

module _ {K X : Type 0} {R : K → K → Ordering} where
  -- a map is empty exactly where its length is 0
  pub empty_by_len : (m : FinMap R X) (n : ℕ) → n ≡ len m → IsTrue (nat_eq n 0) ↔ (m ≡ empty)
  empty_by_len m n e = (λ h. empty_of_len m (sym e ∙ eqb→eq n 0 (subst T (sym h) tt)), λ h. eq-eqb n 0 (e ∙ ap len h ∙ len-empty R X))

module _ {K X : Type 0} (R : K → K → Ordering) where
  find_lookup : (es : List (K × X)) (q : K) → find R q es ≡ lookup (is_at (R q)) es
  find_lookup [] q = refl
  find_lookup (e ∷ es) q = ap (cond (is_at (R q) e.0) (Some e.1)) (find_lookup es q)

  below : (x : K) (es : List (K × X)) → AllByRecursion (λ y. R x y ≡ Less) (keys_of es) → T (below_all R x es)
  below x [] h = tt
  below x (e ∷ es) h = both _ _ (subst (λ r. T (is_lt r)) (sym h.0) tt) (below x es h.1)

  sorted : (es : List (K × X)) → IsStrictlySortedBy R (keys_of es) → T (is_sorted R es)
  unfolding IsStrictlySortedBy
  sorted [] h = tt
  sorted (e ∷ es) h = both _ _ (below e.0 es h.0) (sorted es h.1)

  find_above : (k : K) (es : List (K × X)) → T (below_all R k es) → find R k es ≡ None
  find_above k [] h = refl
  find_above k (e ∷ es) h = ap (λ b. cond b (Some e.1) (find R k es)) (apart (R k e.0) (first _ _ h)) ∙ find_above k es (second _ _ h)

module _ {K : Type 0} {R : K → K → Ordering} (o : IsTotalOrder R) (exact : IsAntisymmetric R) {X : Type 0} where
  -- what the map of some entries has at a key
  pub get_lookup : (es : List (K × X)) (q : K) → get (from_entries {R = R} es) q ≡ lookup (is_at (R q)) es
  get_lookup es q = get-from_entries o es q ∙ find_lookup R es q

  -- entries that differ at one key make maps that differ there
  pub one_inserted : (es fs : List (K × X)) (k : K) (v : X) → ((q : K) → lookup (is_at (R q)) fs ≡ cond (is_at (R k) q) (Some v) (lookup (is_at (R q)) es)) → from_entries {R = R} fs ≡ insert (from_entries es) k v
  one_inserted es fs k v h = same_map o exact _ _ (λ q.
      get_lookup fs q ∙ h q ∙ ap (λ b. cond b (Some v) (lookup (is_at (R q)) es)) ((eq_by_cmp_equiv o).symm k q)
      ∙ sym (get-insert o (from_entries es) k v q ∙ ap (cond (is_at (R q) k) (Some v)) (get_lookup es q)))

  pub one_removed : (es fs : List (K × X)) (k : K) → ((q : K) → lookup (is_at (R q)) fs ≡ cond (is_at (R k) q) None (lookup (is_at (R q)) es)) → from_entries {R = R} fs ≡ remove (from_entries es) k
  one_removed es fs k h = same_map o exact _ _ (λ q.
      get_lookup fs q ∙ h q ∙ ap (λ b. cond b None (lookup (is_at (R q)) es)) ((eq_by_cmp_equiv o).symm k q)
      ∙ sym (get-remove o (from_entries es) k q ∙ ap (cond (is_at (R q) k) None) (get_lookup es q)))

  -- the entries of the map of ascending entries are these
  pub entries-from_entries : (es : List (K × X)) → IsStrictlySortedBy R (keys_of es) → entries (from_entries {R = R} es) ≡ es
  entries-from_entries es h = let s = sorted R es h in
      let e : from_entries {R = R} es ≡ from_sorted es = same_map o exact _ _ (λ q. get-from_entries o es q ∙ sym (get-from_sorted R es q s)) in
      ap entries e ∙ entries-from_sorted R es s

  pub len-from_entries : (es : List (K × X)) → IsStrictlySortedBy R (keys_of es) → len (from_entries {R = R} es) ≡ length es
  len-from_entries es h = len-entries (from_entries {R = R} es) ∙ ap length (entries-from_entries es h)

  -- what a map has with more entries: what these have, and else its own
  get-with_entries : (es : List (K × X)) → T (is_sorted R es) → (m : FinMap R X) (q : K) → get (with_entries m es) q ≡ option_or (find R q es) (get m q)
  get-with_entries [] h m q = refl
  get-with_entries (e ∷ es) h m q = get-with_entries es (second (below_all R e.0 es) (is_sorted R es) h) (insert m e.0 e.1) q
      ∙ ap (option_or (find R q es)) (get-insert o m e.0 e.1 q)
      ∙ later (eq_by_cmp R q e.0) e.1 (find R q es) (get m q) (λ t. ap (λ k. find R k es) (exact q e.0 (equal (R q e.0) t)) ∙ find_above R e.0 es (first (below_all R e.0 es) (is_sorted R es) h))

  -- what a map has with more entries, in the words of std
  get-with_more : (es : List (K × X)) (m : FinMap R X) (f : K → Option X) → ((q : K) → f q ≡ get m q) → (q : K) → update_all (eq_by_cmp R) f es q ≡ get (with_entries m es) q
  get-with_more [] m f h q = h q
  get-with_more (e ∷ es) m f h q = get-with_more es (insert m e.0 e.1) (update (eq_by_cmp R) f e.0 (Some e.1))
      (λ p. ap (λ b. cond b (Some e.1) (f p)) ((eq_by_cmp_equiv o).symm e.0 p) ∙ ap (cond (eq_by_cmp R p e.0) (Some e.1)) (h p) ∙ sym (get-insert o m e.0 e.1 p)) q

  -- the map of entries that std put into the empty map
  pub collected : (es fs : List (K × X)) → ((q : K) → lookup (is_at (R q)) fs ≡ update_all (eq_by_cmp R) (λ _. None) es q) → from_entries {R = R} fs ≡ with_entries empty es
  collected es fs h = same_map o exact _ _ (λ q. get_lookup fs q ∙ h q ∙ get-with_more es empty (λ _. None) (λ p. sym (get-empty R p)) q)

  -- a map's own entries, put into the empty map, make it
  pub with_own_entries : (m : FinMap R X) → with_entries empty (entries m) ≡ m
  with_own_entries m = same_map o exact _ _ (λ q.
      get-with_entries (entries m) (entries_sorted m) empty q ∙ ap (option_or (find R q (entries m))) (get-empty R q) ∙ or_none _ ∙ sym (get-entries m q))

  -- the entries whose keys pass a test make the map of the keys that pass it
  pub from_entries-filter : (p : K → Bool) (es : List (K × X)) → from_entries {R = R} (filter (λ e. p e.0) es) ≡ retain_keys (from_entries es) p
  from_entries-filter p es = same_map o exact _ _ (λ q.
      let alike : (x : K) → is_at (R q) x ≡ true → p x ≡ p q = λ x t. ap p (sym (exact q x (equal (R q x) t))) in
      get_lookup (filter (λ e. p e.0) es) q ∙ lookup-filter-keys (is_at (R q)) p (p q) alike es
      ∙ ap (λ v. cond (p q) v None) (sym (get_lookup es q))
      ∙ sym (get-retain_keys (from_entries es) p q (λ x t. ap p (sym (exact q x t)))))
