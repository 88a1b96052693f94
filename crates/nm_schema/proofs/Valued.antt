-- Values along what rows lead to: each is known where no row leads to itself.
use Rattle.std.proofs.Common.{◌≡◌, ◌∙◌, ◌<◌, ◌≤◌, ◌+◌, ◌-◌, ◌⊎◌, inl, inr, ℕ, zero, suc, List, [], ◌∷◌, length, map, Bool, true, false, ◌||◌, Option, Some, refl, sym, ap, subst, arith}
use Rattle.std.specs.Prelude.{Contains, eqb}
use Rattle.std.specs.Option.{option_and_then}
use Rattle.std.specs.List.{list_any, AllByRecursion, IsDistinct}
use Rattle.std.proofs.lemmas.Bool.Decides.{nat_tests}
use Rattle.std.proofs.lemmas.Map.Steps.{length-le_from_distinct_below}
use Rattle.nm_graph.specs.Value.{strict, all_there}
use Rattle.nm_types.specs.Spells.{IsOnce}
use Rattle.nm_schema_uses.specs.Config.{LeadsBy, one, further}
use Rattle.nm_schema_uses.specs.Worth.{worth_within}
use Rattle.nm_schema_nodes.proofs.Unfolding.{unfold_within}
use Rattle.nm_schema.proofs.Elements.{here, later, nothing, first_or_later, in_map}

-- ---- numbers that come once

pub no_equal : (x y : ℕ) → (x ≡ y → ⊥) → eqb x y ≡ false
no_equal x y ne = grind (arith, nat_tests, ne)

are_equal : (x y : ℕ) → eqb x y ≡ true → x ≡ y
are_equal x y e = grind (arith, nat_tests)

pub all_apart : (x : ℕ) (xs : List ℕ) → ((y : ℕ) → Contains xs y → x ≡ y → ⊥) → AllByRecursion (λ y. eqb x y ≡ false) xs
all_apart x [] ne = tt
all_apart x (y ∷ xs) ne = (no_equal x y (ne y (here y y xs refl)), all_apart x xs (λ z c. ne z (later y z xs c)))

pub any_in : (q : ℕ) (xs : List ℕ) → list_any (eqb q) xs ≡ true → Contains xs q
any_in q [] e = absurd (cc)
any_in q (x ∷ xs) e = by (eqb q x) refl (any_in q xs) e
  where
    by : (b : Bool) → eqb q x ≡ b → (list_any (eqb q) xs ≡ true → Contains xs q) → (b || list_any (eqb q) xs) ≡ true → Contains (x ∷ xs) q
    by true is rest f = here x q xs (sym (are_equal q x is))
    by false is rest f = later x q xs (rest f)

-- numbers below n that come once are at most n
pub few_distinct : (xs : List ℕ) (n : ℕ) → IsDistinct eqb xs → ((q : ℕ) → Contains xs q → q < n) → length xs ≤ n
few_distinct xs n once within = length-le_from_distinct_below xs n once (λ q e. within q (any_in q xs e))

-- of names that come once the numbers come once
pub distinct : (f : ℕ → List ℕ) (xs : List ℕ) → IsOnce (map f xs) → IsDistinct eqb xs
unfolding IsDistinct
distinct f [] once = tt
distinct f (x ∷ xs) once = (all_apart x xs (λ y c e. once.0 (subst (λ (w : List ℕ). Contains (map f xs) w) (ap f (sym e)) (in_map f xs y c))), distinct f xs once.1)

-- ---- values

-- all are known, or one fails
pub all_or : {Y : Type 0} (f : ℕ → Option Y) (T : ℕ → Type 0) (ks : List ℕ) → ((k : ℕ) → Contains ks k → ((c : Y) × (f k ≡ Some c)) ⊎ T k) → ((known : List Y) × (all_there (map f ks) ≡ Some known)) ⊎ ((k : ℕ) × Contains ks k × T k)
all_or f T [] each = inl ([], refl)
all_or {Y = Y} f T (k ∷ ks) each = by (each k (here k k ks refl)) (all_or f T ks (λ j c. each j (later k j ks c)))
  where
    by : ((c : Y) × (f k ≡ Some c)) ⊎ T k → ((known : List Y) × (all_there (map f ks) ≡ Some known)) ⊎ ((j : ℕ) × Contains ks j × T j)
        → ((known : List Y) × (all_there (map f (k ∷ ks)) ≡ Some known)) ⊎ ((j : ℕ) × Contains (k ∷ ks) j × T j)
    by (inr t) rest = inr (k, here k k ks refl, t)
    by (inl a) (inr r) = inr (r.0, later k r.0 ks r.1, r.2)
    by (inl a) (inl b) = inl (a.0 ∷ b.0, rw (a.1, b.1) refl)

-- all are known where each is
pub all_known : {X Y : Type 0} (f : X → Option Y) (ks : List X) → ((k : X) → Contains ks k → (c : Y) × (f k ≡ Some c)) → (known : List Y) × (all_there (map f ks) ≡ Some known)
all_known f [] each = ([], refl)
all_known f (k ∷ ks) each =
    let a = each k (here k k ks refl) in
    let b = all_known f ks (λ j c. each j (later k j ks c)) in
    (a.0 ∷ b.0, rw (a.1, b.1) refl)

-- values of the numbers of a sort: the sort leads on to itself alone, none of it leads to itself, and each has a value once those have that it leads to
pub record IsFounded {Y : Type 0} (value : ℕ → ℕ → Option Y) (next : ℕ → List ℕ) (count : ℕ) (Is : ℕ → Type 0) : Type 0 where
  pub on : (i k : ℕ) → Is i → Contains (next i) k → Is k
  pub within : (i : ℕ) → Is i → i < count
  pub acyclic : (i : ℕ) → Is i → LeadsBy next i i → ⊥
  pub makes : (steps i : ℕ) (known : List Y) → steps < count → Is i → all_there (map (value steps) (next i)) ≡ Some known → (y : Y) × (value (suc steps) i ≡ Some y)

module _ {Y : Type 0} (value : ℕ → ℕ → Option Y) (next : ℕ → List ℕ) (count : ℕ) (Is : ℕ → Type 0) (are : IsFounded value next count Is) where
  leads_join : (i k j : ℕ) → LeadsBy next i k → LeadsBy next k j → LeadsBy next i j
  leads_join i k j (one c) m = further k c m
  leads_join i k j (further o c l) m = further o c (leads_join o k j l m)

  -- a number leads to these, one after another
  abbrev IsTrail : ℕ → List ℕ → Type 0
  IsTrail i [] = Unit {0}
  IsTrail i (k ∷ ks) = Contains (next i) k × Is k × IsTrail k ks

  trail_leads : (i : ℕ) (ks : List ℕ) (j : ℕ) → IsTrail i ks → Contains ks j → LeadsBy next i j
  trail_leads i [] j t c = absurd (nothing j c)
  trail_leads i (k ∷ ks) j t c = elim (first_or_later k j ks c) [
    | inl e ↦ subst (λ (x : ℕ). LeadsBy next i x) e (one t.0)
    | inr d ↦ further k t.0 (trail_leads k ks j t.2 d)
  ]

  trail_within : (i : ℕ) (ks : List ℕ) (j : ℕ) → IsTrail i ks → Contains ks j → j < count
  trail_within i [] j t c = absurd (nothing j c)
  trail_within i (k ∷ ks) j t c = elim (first_or_later k j ks c) [
    | inl e ↦ subst (λ (x : ℕ). x < count) e (are.within k t.1)
    | inr d ↦ trail_within k ks j t.2 d
  ]

  trail_distinct : (i : ℕ) (ks : List ℕ) → Is i → IsTrail i ks → IsDistinct eqb (i ∷ ks)
  unfolding IsDistinct
  trail_distinct i [] is t = (tt, tt)
  trail_distinct i (k ∷ ks) is t = (
    all_apart i (k ∷ ks) (λ y c e. are.acyclic i is (subst (λ (x : ℕ). LeadsBy next i x) (sym e) (trail_leads i (k ∷ ks) y t c))),
    trail_distinct k ks t.1 t.2,
  )

  trail_few : (i : ℕ) (ks : List ℕ) → Is i → IsTrail i ks → length (i ∷ ks) ≤ count
  trail_few i ks is t = few_distinct (i ∷ ks) count (trail_distinct i ks is t) (λ q c. elim (first_or_later i q ks c) [
    | inl e ↦ subst (λ (x : ℕ). x < count) e (are.within i is)
    | inr d ↦ trail_within i ks q t d
  ])

  abbrev Knows : ℕ → ℕ → Type 0
  Knows steps i = (y : Y) × (value steps i ≡ Some y)

  abbrev Trails : ℕ → ℕ → Type 0
  Trails steps i = (ks : List ℕ) × IsTrail i ks × (length ks ≡ steps)

  known_next : (steps i : ℕ) → steps < count → Is i → ((known : List Y) × (all_there (map (value steps) (next i)) ≡ Some known)) ⊎ ((k : ℕ) × Contains (next i) k × Trails steps k) → Knows (suc steps) i ⊎ Trails (suc steps) i
  known_next steps i lt is (inl (known, e)) = inl (are.makes steps i known lt is e)
  known_next steps i lt is (inr (k, d, t)) = inr (k ∷ t.0, (d, are.on i k is d, t.1), ap suc t.2)

  -- with some steps a number has a value, or leads on for as many
  known_or : (steps i : ℕ) → steps ≤ count → Is i → Knows steps i ⊎ Trails steps i
  known_or zero i le is = inr ([], tt, refl)
  known_or (suc steps) i le is =
      known_next steps i (omega (arith, le)) is (all_or (value steps) (Trails steps) (next i) (λ k d. known_or steps k (omega (arith, le)) (are.on i k is d)))

  pub is_known : (i : ℕ) → Is i → (y : Y) × (value count i ≡ Some y)
  is_known i is = by (known_or count i (omega arith) is)
    where
      by : Knows count i ⊎ Trails count i → (y : Y) × (value count i ≡ Some y)
      by (inl k) = k
      by (inr t) = let most = trail_few i t.0 is t.1 in let size = t.2 in absurd (omega (arith, most, size))

-- ---- values that are there after some steps

module _ {Y : Type 0} (step : ℕ → List Y → Option Y) (next : ℕ → List ℕ) where
  one_more : (steps i : ℕ) (y : Y) → worth_within (strict step) next steps i ≡ Some y → worth_within (strict step) next (suc steps) i ≡ Some y
  one_more steps i y e =
      let u = unfold_within step next steps i y e in
      ap (λ (known : Option (List Y)). option_and_then (step i) known) u.there ∙ u.made

  some_more : (d steps i : ℕ) (y : Y) → worth_within (strict step) next steps i ≡ Some y → worth_within (strict step) next (d + steps) i ≡ Some y
  some_more zero steps i y e =
      let at : 0 + steps ≡ steps = omega arith in
      ap (λ (n : ℕ). worth_within (strict step) next n i) at ∙ e
  some_more (suc d) steps i y e =
      let at : suc d + steps ≡ suc (d + steps) = omega arith in
      ap (λ (n : ℕ). worth_within (strict step) next n i) at ∙ one_more (d + steps) i y (some_more d steps i y e)

  -- they are there after more
  pub stays_known : (steps count i : ℕ) (y : Y) → steps ≤ count → worth_within (strict step) next steps i ≡ Some y → worth_within (strict step) next count i ≡ Some y
  stays_known steps count i y le e =
      let at : (count - steps) + steps ≡ count = omega (arith, le) in
      sym (ap (λ (n : ℕ). worth_within (strict step) next n i) at) ∙ some_more (count - steps) steps i y e
