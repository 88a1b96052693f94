-- A `BTreeMap` of numbers as a finite map.
use Rattle.std.specs.Prelude.{◌≡◌, ◌↔◌, ℕ, length, IsTrue, nat_eq, Bool, true, false, cond, ◌&&◌, List, [], ◌∷◌, Option, Some, None, refl}
use Rattle.std.proofs.Common.{sym, ◌∙◌, ap, subst, eq-eqb}
use Rattle.std.proofs.Math.Dec.{eqb→eq}
use lib.Dec.{T}
use Rattle.std.specs.declared.cmp.Ordering.{Ordering}
use Rattle.std.specs.declared.cmp.Ordering.TheVariants.{Less, Equal, Greater}
use Rattle.std.specs.Ordering.{nat_cmp, eq_by_cmp, is_lt, is_eq}
use Rattle.std.specs.Cmp.{nat_cmp_total, eq_by_cmp_equiv}
use Rattle.std.specs.List.{AllByRecursion}
use Rattle.std.specs.List.Sorted.{IsStrictlySortedBy}
use Rattle.std.specs.Map.{lookup, keys_of}
use Rattle.std.specs.BTreeMap.{is_at}
use Rattle.std.specs.FinMap.{FinMap, get, insert, remove, entries, empty, len, entries_sorted, get-entries, get-empty, len-entries, len-empty, empty_of_len, from_entries, from_sorted, same_map, get-from_entries, get-insert, get-remove, get-from_sorted, entries-from_sorted, nat_cmp-IsAntisymmetric}
use Rattle.std.specs.FinMap.Entries.{find, is_sorted, below_all}
use Rattle.std.specs.Option.{option_or}
use Rattle.nm_flat.specs.NumberMap.{with_entries}
use Rattle.nm_flat.specs.Flat.{changed, all_changed, value_after}

both : (a b : Bool) → T a → T b → T (a && b)
both true b p q = q
both false b p q = absurd p

equal : (r : Ordering) → is_eq r ≡ true → r ≡ Equal
equal Less h = absurd (subst T (sym h) tt)
equal Equal h = refl
equal Greater h = absurd (subst T (sym h) tt)

apart : (r : Ordering) → T (is_lt r) → is_eq r ≡ false
apart Less h = refl
apart Equal h = absurd h
apart Greater h = absurd h

first : (a b : Bool) → T (a && b) → T a
first true b p = tt
first false b p = p

second : (a b : Bool) → T (a && b) → T b
second true b p = p
second false b p = absurd p

module _ {X : Type 0} where
  find_number : (es : List (ℕ × X)) (q : ℕ) → find nat_cmp q es ≡ lookup (is_at (nat_cmp q)) es
  find_number [] q = refl
  find_number (e ∷ es) q = ap (cond (is_at (nat_cmp q) e.0) (Some e.1)) (find_number es q)

  -- what the map of some entries has at a number
  pub get_number : (es : List (ℕ × X)) (q : ℕ) → get (from_entries {R = nat_cmp} es) q ≡ lookup (is_at (nat_cmp q)) es
  get_number es q = get-from_entries nat_cmp_total es q ∙ find_number es q

  -- entries that differ at one number make maps that differ there
  pub one_inserted : (es fs : List (ℕ × X)) (k : ℕ) (v : X) → ((q : ℕ) → lookup (is_at (nat_cmp q)) fs ≡ cond (is_at (nat_cmp k) q) (Some v) (lookup (is_at (nat_cmp q)) es)) → from_entries {R = nat_cmp} fs ≡ insert (from_entries es) k v
  one_inserted es fs k v h = same_map nat_cmp_total nat_cmp-IsAntisymmetric _ _ (λ q.
      get_number fs q ∙ h q ∙ ap (λ b. cond b (Some v) (lookup (is_at (nat_cmp q)) es)) ((eq_by_cmp_equiv nat_cmp_total).symm k q)
      ∙ sym (get-insert nat_cmp_total (from_entries es) k v q ∙ ap (cond (is_at (nat_cmp q) k) (Some v)) (get_number es q)))

  pub one_removed : (es fs : List (ℕ × X)) (k : ℕ) → ((q : ℕ) → lookup (is_at (nat_cmp q)) fs ≡ cond (is_at (nat_cmp k) q) None (lookup (is_at (nat_cmp q)) es)) → from_entries {R = nat_cmp} fs ≡ remove (from_entries es) k
  one_removed es fs k h = same_map nat_cmp_total nat_cmp-IsAntisymmetric _ _ (λ q.
      get_number fs q ∙ h q ∙ ap (λ b. cond b None (lookup (is_at (nat_cmp q)) es)) ((eq_by_cmp_equiv nat_cmp_total).symm k q)
      ∙ sym (get-remove nat_cmp_total (from_entries es) k q ∙ ap (cond (is_at (nat_cmp q) k) None) (get_number es q)))

  below : (x : ℕ) (es : List (ℕ × X)) → AllByRecursion (λ y. nat_cmp x y ≡ Less) (keys_of es) → T (below_all nat_cmp x es)
  below x [] h = tt
  below x (e ∷ es) h = both _ _ (subst (λ r. T (is_lt r)) (sym h.0) tt) (below x es h.1)

  sorted : (es : List (ℕ × X)) → IsStrictlySortedBy nat_cmp (keys_of es) → T (is_sorted nat_cmp es)
  unfolding IsStrictlySortedBy
  sorted [] h = tt
  sorted (e ∷ es) h = both _ _ (below e.0 es h.0) (sorted es h.1)

  -- the entries of the map of ascending entries are these
  pub entries-from_entries : (es : List (ℕ × X)) → IsStrictlySortedBy nat_cmp (keys_of es) → entries (from_entries {R = nat_cmp} es) ≡ es
  entries-from_entries es h = let s = sorted es h in
      let e : from_entries {R = nat_cmp} es ≡ from_sorted es = same_map nat_cmp_total nat_cmp-IsAntisymmetric _ _ (λ q. get-from_entries nat_cmp_total es q ∙ sym (get-from_sorted nat_cmp es q s)) in
      ap entries e ∙ entries-from_sorted nat_cmp es s

  pub len-from_entries : (es : List (ℕ × X)) → IsStrictlySortedBy nat_cmp (keys_of es) → len (from_entries {R = nat_cmp} es) ≡ length es
  len-from_entries es h = len-entries (from_entries {R = nat_cmp} es) ∙ ap length (entries-from_entries es h)

  -- a map is empty exactly where its length is 0
  pub empty_by_len : (m : FinMap nat_cmp X) (n : ℕ) → n ≡ len m → IsTrue (nat_eq n 0) ↔ (m ≡ empty)
  empty_by_len m n e = (λ h. empty_of_len m (sym e ∙ eqb→eq n 0 (subst T (sym h) tt)), λ h. eq-eqb n 0 (e ∙ ap len h ∙ len-empty nat_cmp X))

  find_above : (k : ℕ) (es : List (ℕ × X)) → T (below_all nat_cmp k es) → find nat_cmp k es ≡ None
  find_above k [] h = refl
  find_above k (e ∷ es) h = ap (λ b. cond b (Some e.1) (find nat_cmp k es)) (apart (nat_cmp k e.0) (first _ _ h)) ∙ find_above k es (second _ _ h)

  later : (b : Bool) (x : X) (found had : Option X) → (b ≡ true → found ≡ None) → option_or found (cond b (Some x) had) ≡ option_or (cond b (Some x) found) had
  later true x found had h = ap (λ o. option_or o (Some x)) (h refl)
  later false x found had h = refl

  -- what a map has with more entries: what these have, and else its own
  pub get-with_entries : (es : List (ℕ × X)) → T (is_sorted nat_cmp es) → (m : FinMap nat_cmp X) (q : ℕ) → get (with_entries m es) q ≡ option_or (find nat_cmp q es) (get m q)
  get-with_entries [] h m q = refl
  get-with_entries (e ∷ es) h m q = get-with_entries es (second _ _ h) (insert m e.0 e.1) q
      ∙ ap (option_or (find nat_cmp q es)) (get-insert nat_cmp_total m e.0 e.1 q)
      ∙ later (eq_by_cmp nat_cmp q e.0) e.1 (find nat_cmp q es) (get m q) (λ t. ap (λ k. find nat_cmp k es) (nat_cmp-IsAntisymmetric q e.0 (equal (nat_cmp q e.0) t)) ∙ find_above e.0 es (first _ _ h))

  or_none : (o : Option X) → option_or o None ≡ o
  or_none None = refl
  or_none (Some x) = refl

  -- a map's own entries, put into the empty map, make it
  pub with_own_entries : (m : FinMap nat_cmp X) → with_entries empty (entries m) ≡ m
  with_own_entries m = same_map nat_cmp_total nat_cmp-IsAntisymmetric _ _ (λ q.
      get-with_entries (entries m) (entries_sorted m) empty q ∙ ap (option_or (find nat_cmp q (entries m))) (get-empty nat_cmp q) ∙ or_none _ ∙ sym (get-entries m q))

get-changed : (m : FinMap nat_cmp ℕ) (k : ℕ) (change : Option ℕ) (q : ℕ) → get (changed m k change) q ≡ cond (eq_by_cmp nat_cmp q k) change (get m q)
get-changed m k None q = get-remove nat_cmp_total m k q
get-changed m k (Some v) q = get-insert nat_cmp_total m k v q

said_later : (b : Bool) (change : Option ℕ) (found : Option (Option ℕ)) (had : Option ℕ) → (b ≡ true → found ≡ None) → value_after found (cond b change had) ≡ value_after (cond b (Some change) found) had
said_later true change found had h = ap (λ o. value_after o change) (h refl)
said_later false change found had h = refl

get-changes : (es : List (ℕ × Option ℕ)) → T (is_sorted nat_cmp es) → (m : FinMap nat_cmp ℕ) (q : ℕ) → get (all_changed m es) q ≡ value_after (find nat_cmp q es) (get m q)
get-changes [] h m q = refl
get-changes (e ∷ es) h m q = get-changes es (second _ _ h) (changed m e.0 e.1) q
    ∙ ap (value_after (find nat_cmp q es)) (get-changed m e.0 e.1 q)
    ∙ said_later (eq_by_cmp nat_cmp q e.0) e.1 (find nat_cmp q es) (get m q) (λ t. ap (λ k. find nat_cmp k es) (nat_cmp-IsAntisymmetric q e.0 (equal (nat_cmp q e.0) t)) ∙ find_above e.0 es (first _ _ h))

-- each key has after an edit what the edit says of it, and else its old value
pub get-all_changed : (m : FinMap nat_cmp ℕ) (edit : FinMap nat_cmp (Option ℕ)) (q : ℕ) → get (all_changed m (entries edit)) q ≡ value_after (get edit q) (get m q)
get-all_changed m edit q = get-changes (entries edit) (entries_sorted edit) m q ∙ ap (λ o. value_after o (get m q)) (sym (get-entries edit q))
