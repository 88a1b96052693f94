-- Whether one number leads to another is told in no more steps than there are numbers.
use Rattle.std.proofs.Common.{◌≡◌, ◌↔◌, ◌∙◌, ◌<◌, ◌+◌, ◌-◌, ◌⊎◌, inl, inr, ℕ, zero, suc, List, [], ◌∷◌, length, Bool, true, false, ◌==◌, ◌||◌, refl, sym, ap, subst, arith}
use Rattle.std.specs.Prelude.{Contains, eqb}
use Rattle.std.specs.List.{list_any, IsDistinct}
use Rattle.std.proofs.lemmas.Bool.Decides.{nat_tests}
use Rattle.std.proofs.lemmas.Grind.{common_steps}
use Rattle.nm_schema_uses.specs.Config.{LeadsBy, one, further, ReachesBy}
use Rattle.nm_schema.specs.FactsOf.{leads_within, reaches_within}
use Rattle.nm_schema.proofs.Elements.{here, later, nothing, first_or_later}
use Rattle.nm_schema.proofs.Valued.{all_apart, any_in, few_distinct}

-- ---- some of a list

pub some_true : (p : ℕ → Bool) (xs : List ℕ) → list_any p xs ≡ true → (x : ℕ) × Contains xs x × (p x ≡ true)
some_true p [] e = absurd (cc)
some_true p (z ∷ xs) e = by (p z) refl (some_true p xs) e
  where
    by : (b : Bool) → p z ≡ b → (list_any p xs ≡ true → (x : ℕ) × Contains xs x × (p x ≡ true)) → (b || list_any p xs) ≡ true → (x : ℕ) × Contains (z ∷ xs) x × (p x ≡ true)
    by true is rest f = (z, here z z xs refl, is)
    by false is rest f = let r = rest f in (r.0, later z r.0 xs r.1, r.2)

left_or : (a b : Bool) → a ≡ true → (a || b) ≡ true
left_or true b e = refl
left_or false b e = absurd (cc)

right_or : (a b : Bool) → b ≡ true → (a || b) ≡ true
right_or true b e = refl
right_or false b e = e

pub true_some : (p : ℕ → Bool) (xs : List ℕ) (x : ℕ) → Contains xs x → p x ≡ true → list_any p xs ≡ true
true_some p [] x c e = absurd (nothing x c)
true_some p (z ∷ xs) x c e = elim (first_or_later z x xs c) [
  | inl same ↦ left_or (p z) (list_any p xs) (ap p same ∙ e)
  | inr d ↦ right_or (p z) (list_any p xs) (true_some p xs x d e)
]

pub same_number : (x y : ℕ) → (x == y) ≡ true → x ≡ y
same_number x y e = grind (arith, nat_tests)

pub number_same : (x y : ℕ) → x ≡ y → (x == y) ≡ true
number_same x y e = grind (arith, common_steps)

equal_itself : (x y : ℕ) → x ≡ y → eqb x y ≡ true
equal_itself x y e = grind (arith, common_steps)

pub either_true : (a b : Bool) → (a || b) ≡ true → (a ≡ true) ⊎ (b ≡ true)
either_true true b e = inl refl
either_true false b e = inr e

-- ---- paths

module _ (next : ℕ → List ℕ) where
  -- one leads to another through these, the last of which is the other
  abbrev IsPath : ℕ → List ℕ → ℕ → Type 0
  IsPath i [] j = i ≡ j
  IsPath i (k ∷ ks) j = Contains (next i) k × IsPath k ks j

  -- one leads to another with no number twice on the way
  abbrev IsSimple : ℕ → ℕ → Type 0
  IsSimple i j = (ks : List ℕ) × IsPath i ks j × IsDistinct eqb (i ∷ ks)

  path_of : (i j : ℕ) → LeadsBy next i j → (k : ℕ) × Contains (next i) k × ((ks : List ℕ) × IsPath k ks j)
  path_of i j (one c) = (j, c, ([], refl))
  path_of i j (further k c l) = let p = path_of k j l in (k, c, (p.0 ∷ p.2.0, (p.1, p.2.1)))

  cut : (ks : List ℕ) (k i j : ℕ) → IsPath k ks j → IsDistinct eqb (k ∷ ks) → Contains (k ∷ ks) i → IsSimple i j
  unfolding IsDistinct
  cut [] k i j p d c = elim (first_or_later k i [] c) [
    | inl same ↦ ([], sym same ∙ p, (tt, tt))
    | inr more ↦ absurd (nothing i more)
  ]
  cut (m ∷ ks) k i j p d c = elim (first_or_later k i (m ∷ ks) c) [
    | inl same ↦ subst (λ (x : ℕ). IsSimple x j) same (m ∷ ks, p, d)
    | inr more ↦ cut ks m i j p.1 d.1 more
  ]

  extended : (k i j : ℕ) (ks : List ℕ) → Contains (next i) k → IsPath k ks j → IsDistinct eqb (k ∷ ks) → (b : Bool) → list_any (eqb i) (k ∷ ks) ≡ b → IsSimple i j
  unfolding IsDistinct
  extended k i j ks c p d true e = cut ks k i j p d (any_in i (k ∷ ks) e)
  extended k i j ks c p d false e = (
    k ∷ ks,
    (c, p),
    (
      all_apart i (k ∷ ks) (λ y among same. (let is : true ≡ false = sym (true_some (eqb i) (k ∷ ks) y among (equal_itself i y same)) ∙ e in absurd (cc))),
      d,
    ),
  )

  simple : (ks : List ℕ) (i j : ℕ) → IsPath i ks j → IsSimple i j
  unfolding IsDistinct
  simple [] i j p = ([], p, (tt, tt))
  simple (k ∷ ks) i j p = let s = simple ks k j p.1 in extended k i j s.0 p.0 s.1 s.2 (list_any (eqb i) (k ∷ s.0)) refl

  -- a path is as many steps
  path_leads : (ks : List ℕ) (k i j : ℕ) → Contains (next i) k → IsPath k ks j → leads_within next (suc (length ks)) j i ≡ true
  unfolding leads_within
  path_leads [] k i j c p = true_some (λ k. k == j || leads_within next 0 j k) (next i) k c (left_or (k == j) (leads_within next 0 j k) (number_same k j p))
  path_leads (m ∷ ks) k i j c p = true_some (λ k. k == j || leads_within next (suc (length ks)) j k) (next i) k c (right_or (k == j) (leads_within next (suc (length ks)) j k) (path_leads ks m k j p.0 p.1))

  step_more : (steps j i : ℕ) → leads_within next steps j i ≡ true → leads_within next (suc steps) j i ≡ true
  unfolding leads_within
  step_more zero j i e = absurd (cc)
  step_more (suc steps) j i e =
      let s = some_true (λ k. k == j || leads_within next steps j k) (next i) e in
      true_some (λ k. k == j || leads_within next (suc steps) j k) (next i) s.0 s.1 (elim (either_true (s.0 == j) (leads_within next steps j s.0) s.2) [
        | inl same ↦ left_or (s.0 == j) (leads_within next (suc steps) j s.0) same
        | inr more ↦ right_or (s.0 == j) (leads_within next (suc steps) j s.0) (step_more steps j s.0 more)
      ])

  steps_more : (d steps j i : ℕ) → leads_within next steps j i ≡ true → leads_within next (d + steps) j i ≡ true
  steps_more zero steps j i e = let at : 0 + steps ≡ steps = omega arith in ap (λ (n : ℕ). leads_within next n j i) at ∙ e
  steps_more (suc d) steps j i e =
      let at : suc d + steps ≡ suc (d + steps) = omega arith in
      ap (λ (n : ℕ). leads_within next n j i) at ∙ step_more (d + steps) j i (steps_more d steps j i e)

  -- what is told is so
  pub told_leads : (steps j i : ℕ) → leads_within next steps j i ≡ true → LeadsBy next i j
  unfolding leads_within
  told_leads zero j i e = absurd (cc)
  told_leads (suc steps) j i e =
      let s = some_true (λ k. k == j || leads_within next steps j k) (next i) e in
      elim (either_true (s.0 == j) (leads_within next steps j s.0) s.2) [
        | inl same ↦ subst (λ (x : ℕ). LeadsBy next i x) (same_number s.0 j same) (one s.1)
        | inr more ↦ further s.0 s.1 (told_leads steps j s.0 more)
      ]

  module _ (count : ℕ) (within : (i k : ℕ) → Contains (next i) k → k < count) where
    path_within : (ks : List ℕ) (k j y : ℕ) → IsPath k ks j → Contains ks y → y < count
    path_within [] k j y p c = absurd (nothing y c)
    path_within (m ∷ ks) k j y p c = elim (first_or_later m y ks c) [
      | inl same ↦ subst (λ (x : ℕ). x < count) same (within k m p.0)
      | inr more ↦ path_within ks m j y p.1 more
    ]

    -- and what is so is told
    pub leads_told : (i j : ℕ) → LeadsBy next i j → leads_within next count j i ≡ true
    leads_told i j l =
        let p = path_of i j l in
        let s = simple p.2.0 p.0 j p.2.1 in
        let few = few_distinct (p.0 ∷ s.0) count s.2 (λ q c. elim (first_or_later p.0 q s.0 c) [
          | inl same ↦ subst (λ (x : ℕ). x < count) same (within i p.0 p.1)
          | inr more ↦ path_within s.0 p.0 j q s.1 more
        ]) in
        let at : (count - suc (length s.0)) + suc (length s.0) ≡ count = omega (arith, few) in
        sym (ap (λ (n : ℕ). leads_within next n j i) at) ∙ steps_more (count - suc (length s.0)) (suc (length s.0)) j i (path_leads s.0 p.0 i j p.1 s.1)

    pub leads_decides : (i j : ℕ) → (leads_within next count j i ≡ true) ↔ LeadsBy next i j
    leads_decides i j = (told_leads count j i, leads_told i j)

    pub reaches_decides : (i j : ℕ) → (reaches_within next count j i ≡ true) ↔ ReachesBy next i j
    reaches_decides i j = (told, so)
      where
        told : (i == j || leads_within next count j i) ≡ true → ReachesBy next i j
        told e = elim (either_true (i == j) (leads_within next count j i) e) [
          | inl same ↦ inl (same_number i j same)
          | inr more ↦ inr (told_leads count j i more)
        ]

        so : ReachesBy next i j → (i == j || leads_within next count j i) ≡ true
        so (inl same) = left_or (i == j) (leads_within next count j i) (number_same i j same)
        so (inr l) = right_or (i == j) (leads_within next count j i) (leads_told i j l)

    pub leads_inside : (i j : ℕ) → LeadsBy next i j → j < count
    leads_inside i j (one c) = within i j c
    leads_inside i j (further k c l) = leads_inside k j l
