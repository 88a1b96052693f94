-- The nodes that stand in one place.
use Rattle.std.proofs.Common.{◌≡◌, ◌∙◌, ◌≤◌, ◌+◌, inl, inr, ℕ, zero, suc, List, [], ◌∷◌, Bool, true, false, cond, ◌&&◌, ◌==◌, Option, Some, None, slice_get, refl, sym, ap, subst, arith}
use Rattle.std.specs.Prelude.{Contains}
use Rattle.std.proofs.lemmas.Grind.{common_steps}
use Rattle.std.proofs.lemmas.Bool.{and_parts}
use Rattle.std.proofs.lemmas.Bool.Decides.{nat_tests}
use Rattle.nm_schema_statements.specs.Rows.{same_parent}
use Rattle.nm_schema_nodes.specs.declared.instance.Instance.{Instance}
use Rattle.nm_schema_nodes.specs.Expansion.{places_of, is_below, is_top, children, tops}
use Rattle.nm_schema.proofs.Elements.{here, later, nothing, first_or_later}
use Rattle.nm_schema.proofs.Givens.{parent_is}

in_first : (b : Bool) (n : ℕ) (l : List ℕ) → b ≡ true → Contains (cond b (n ∷ l) l) (n + 0)
in_first true n l e = here n (n + 0) l (omega arith)
in_first false n l e = absurd (cc)

in_later : (b : Bool) (n : ℕ) (l : List ℕ) (k : ℕ) → Contains l k → Contains (cond b (n ∷ l) l) k
in_later true n l k c = later n k l c
in_later false n l k c = c

pub in_places : (test : Instance → Bool) (n : ℕ) (xs : List Instance) (i : ℕ) (x : Instance) → slice_get xs i ≡ Some x → test x ≡ true → Contains (places_of test n xs) (n + i)
unfolding places_of
in_places test n [] i x e t = absurd (cc)
in_places test n (z ∷ xs) zero x e t = let same : z ≡ x = cc in in_first (test z) n (places_of test (suc n) xs) (ap test same ∙ t)
in_places test n (z ∷ xs) (suc i) x e t =
    let at : suc n + i ≡ n + suc i = omega arith in
    in_later (test z) n (places_of test (suc n) xs) (n + suc i) (subst (λ k. Contains (places_of test (suc n) xs) k) at (in_places test (suc n) xs i x e t))

-- a place is that of an item that passes the test
pub record IsPassed (test : Instance → Bool) (n : ℕ) (xs : List Instance) (y : ℕ) : Type 0 where
  pub i : ℕ
  pub x : Instance
  pub at : y ≡ n + i
  pub there : slice_get xs i ≡ Some x
  pub passes : test x ≡ true

passed_later : (test : Instance → Bool) (n : ℕ) (z : Instance) (xs : List Instance) (y : ℕ) → IsPassed test (suc n) xs y → IsPassed test n (z ∷ xs) y
passed_later test n z xs y is = record { i = suc is.i; x = is.x; at = omega (arith, is.at); there = is.there; passes = is.passes }

pub of_places : (test : Instance → Bool) (n : ℕ) (xs : List Instance) (y : ℕ) → Contains (places_of test n xs) y → IsPassed test n xs y
unfolding places_of
of_places test n [] y c = absurd (nothing y c)
of_places test n (z ∷ xs) y c = by (test z) refl (of_places test (suc n) xs y) c
  where
    by : (b : Bool) → test z ≡ b → (Contains (places_of test (suc n) xs) y → IsPassed test (suc n) xs y) → Contains (cond b (n ∷ places_of test (suc n) xs) (places_of test (suc n) xs)) y → IsPassed test n (z ∷ xs) y
    by true is rest d = elim (first_or_later n y (places_of test (suc n) xs) d) [
      | inl e ↦ record { i = 0; x = z; at = omega (arith, e); there = refl; passes = is }
      | inr f ↦ passed_later test n z xs y (rest f)
    ]
    by false is rest d = passed_later test n z xs y (rest d)

-- ascending numbers, from n on
abbrev pub AreAscending : ℕ → List ℕ → Type 0
AreAscending n [] = Unit {0}
AreAscending n (k ∷ ks) = (n ≤ k) × AreAscending (suc k) ks

ascending_weaker : (n m : ℕ) (ks : List ℕ) → n ≤ m → AreAscending m ks → AreAscending n ks
ascending_weaker n m [] le are = tt
ascending_weaker n m (k ∷ ks) le are = (omega (arith, le, are.0), are.1)

-- an ascending list has nothing below its beginning
pub ascending_each : (n : ℕ) (ks : List ℕ) (j : ℕ) → AreAscending n ks → Contains ks j → n ≤ j
ascending_each n [] j are c = absurd (nothing j c)
ascending_each n (k ∷ ks) j are c = elim (first_or_later k j ks c) [
  | inl e ↦ omega (arith, e, are.0)
  | inr d ↦ omega (arith, are.0, ascending_each (suc k) ks j are.1 d)
]

pub places_ascend : (test : Instance → Bool) (n : ℕ) (xs : List Instance) → AreAscending n (places_of test n xs)
unfolding places_of
places_ascend test n [] = tt
places_ascend test n (z ∷ xs) = by (test z) (places_ascend test (suc n) xs)
  where
    by : (b : Bool) → AreAscending (suc n) (places_of test (suc n) xs) → AreAscending n (cond b (n ∷ places_of test (suc n) xs) (places_of test (suc n) xs))
    by true rest = (omega arith, rest)
    by false rest = ascending_weaker n (suc n) (places_of test (suc n) xs) (omega arith) rest

-- ---- those directly in a node, and those at the top of a module

itself : (h : ℕ) → same_parent (Some h) (Some h) ≡ true
itself h = grind (arith, common_steps)

same_number : (h : ℕ) → (h == h) ≡ true
same_number h = grind (arith, common_steps)

none_is : (o : Option ℕ) → same_parent o None ≡ true → o ≡ None
none_is None e = refl
none_is (Some i) e = absurd (cc)

pub in_children : (nodes : List Instance) (x p : ℕ) (c : Instance) → slice_get nodes x ≡ Some c → c.parent ≡ Some p → Contains (children nodes p) x
unfolding children is_below
in_children nodes x p c is parent =
    let below : same_parent c.parent (Some p) ≡ true = ap (λ (o : Option ℕ). same_parent o (Some p)) parent ∙ itself p in
    let at : 0 + x ≡ x = omega arith in
    subst (λ k. Contains (places_of (is_below p) 0 nodes) k) at (in_places (is_below p) 0 nodes x c is below)

pub in_tops : (nodes : List Instance) (x : ℕ) (c : Instance) → slice_get nodes x ≡ Some c → c.parent ≡ None → Contains (tops nodes c.owner) x
unfolding tops is_top
in_tops nodes x c is parent =
    let top : (same_parent c.parent None && c.owner == c.owner) ≡ true = ap (λ (o : Option ℕ). same_parent o None && c.owner == c.owner) parent ∙ same_number c.owner in
    let at : 0 + x ≡ x = omega arith in
    subst (λ k. Contains (places_of (is_top c.owner) 0 nodes) k) at (in_places (is_top c.owner) 0 nodes x c is top)

one_item : (nodes : List Instance) (x i : ℕ) (c d : Instance) → slice_get nodes x ≡ Some c → x ≡ 0 + i → slice_get nodes i ≡ Some d → d ≡ c
one_item nodes x i c d is at there = let same : Some d ≡ Some c = sym there ∙ ap (slice_get nodes) (omega (arith, at)) ∙ is in cc

pub of_children : (nodes : List Instance) (x p : ℕ) (c : Instance) → slice_get nodes x ≡ Some c → Contains (children nodes p) x → c.parent ≡ Some p
unfolding children is_below
of_children nodes x p c is in_it =
    let passed = of_places (is_below p) 0 nodes x in_it in
    let same = one_item nodes x passed.i c passed.x is passed.at passed.there in
    ap (λ (i : Instance). i.parent) (sym same) ∙ parent_is passed.x.parent p passed.passes

pub of_tops : (nodes : List Instance) (x m : ℕ) (c : Instance) → slice_get nodes x ≡ Some c → Contains (tops nodes m) x → (c.parent ≡ None) × (c.owner ≡ m)
unfolding tops is_top
of_tops nodes x m c is in_it =
    let passed = of_places (is_top m) 0 nodes x in_it in
    let same = one_item nodes x passed.i c passed.x is passed.at passed.there in
    let both = and_parts (same_parent passed.x.parent None) (passed.x.owner == m) passed.passes in
    (ap (λ (i : Instance). i.parent) (sym same) ∙ none_is passed.x.parent both.0, ap (λ (i : Instance). i.owner) (sym same) ∙ number passed.x.owner both.1)
  where
    number : (n : ℕ) → (n == m) ≡ true → n ≡ m
    number n e = grind (arith, nat_tests)

pub children_ascend : (nodes : List Instance) (p : ℕ) → AreAscending 0 (children nodes p)
unfolding children
children_ascend nodes p = places_ascend (is_below p) 0 nodes

pub tops_ascend : (nodes : List Instance) (m : ℕ) → AreAscending 0 (tops nodes m)
unfolding tops
tops_ascend nodes m = places_ascend (is_top m) 0 nodes
