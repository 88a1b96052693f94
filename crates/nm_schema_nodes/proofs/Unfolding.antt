-- Values of rows, from those of the rows that they lead to.
use Rattle.std.proofs.Common.{◌≡◌, ◌∙◌, ℕ, zero, suc, List, [], ◌∷◌, map, Option, None, Some, option_map, refl, sym, ap}
use Rattle.std.specs.Option.{option_and_then}
use Rattle.nm_graph.specs.Value.{strict, all_there}
use Rattle.nm_schema_uses.specs.Worth.{worth_within}

-- all values are there: the first, and the others
pub record Splits {Y : Type 0} (f : ℕ → Option Y) (j : ℕ) (js : List ℕ) (known : List Y) : Type 0 where
  pub first : Y
  pub others : List Y
  pub first_is : f j ≡ Some first
  pub others_are : all_there (map f js) ≡ Some others
  pub known_is : known ≡ first ∷ others

split_others : {Y : Type 0} (f : ℕ → Option Y) (j : ℕ) (js : List ℕ) (known : List Y) (first : Y) (others : Option (List Y)) → f j ≡ Some first → all_there (map f js) ≡ others → option_map (λ others. first ∷ others) others ≡ Some known → Splits f j js known
split_others f j js known first None is are h = absurd (cc)
split_others f j js known first (Some others) is are h = record { first = first; others = others; first_is = is; others_are = are; known_is = cc }

split_first : {Y : Type 0} (f : ℕ → Option Y) (j : ℕ) (js : List ℕ) (known : List Y) (first : Option Y) → f j ≡ first → all_there (first ∷ map f js) ≡ Some known → Splits f j js known
split_first f j js known None is h = absurd (cc)
split_first f j js known (Some first) is h = split_others f j js known first (all_there (map f js)) is refl h

pub split : {Y : Type 0} (f : ℕ → Option Y) (j : ℕ) (js : List ℕ) (known : List Y) → all_there (map f (j ∷ js)) ≡ Some known → Splits f j js known
split f j js known h = split_first f j js known (f j) refl h

all_there-more : {Y : Type 0} (f g : ℕ → Option Y) → ((j : ℕ) (value : Y) → f j ≡ Some value → g j ≡ Some value) → (js : List ℕ) (known : List Y) → all_there (map f js) ≡ Some known → all_there (map g js) ≡ Some known
all_there-more f g more [] known h = h
all_there-more f g more (j ∷ js) known h =
    let s = split f j js known h in
    rw (more j s.first s.first_is, all_there-more f g more js s.others s.others_are) (ap (λ k. Some k) (sym s.known_is))

-- a value that is there, and those that it is made of
pub record Unfolds {Y : Type 0} (step : ℕ → List Y → Option Y) (next : ℕ → List ℕ) (steps i : ℕ) (value : Y) : Type 0 where
  pub known : List Y
  pub there : all_there (map (worth_within (strict step) next steps) (next i)) ≡ Some known
  pub made : step i known ≡ Some value

unfold_known : {Y : Type 0} (step : ℕ → List Y → Option Y) (next : ℕ → List ℕ) (steps i : ℕ) (value : Y) (known : Option (List Y)) → all_there (map (worth_within (strict step) next steps) (next i)) ≡ known → option_and_then (step i) known ≡ Some value → Unfolds step next steps i value
unfold_known step next steps i value None there made = absurd (cc)
unfold_known step next steps i value (Some known) there made = record { known = known; there = there; made = made }

pub unfold_one : {Y : Type 0} (step : ℕ → List Y → Option Y) (next : ℕ → List ℕ) (steps i : ℕ) (value : Y) → worth_within (strict step) next (suc steps) i ≡ Some value → Unfolds step next steps i value
unfold_one step next steps i value h = unfold_known step next steps i value (all_there (map (worth_within (strict step) next steps) (next i))) refl h

-- a value that is there after some steps is there after one more
within-more : {Y : Type 0} (step : ℕ → List Y → Option Y) (next : ℕ → List ℕ) (steps i : ℕ) (value : Y) → worth_within (strict step) next steps i ≡ Some value → worth_within (strict step) next (suc steps) i ≡ Some value
within-more {Y = Y} step next zero i value h = absurd (cc)
within-more {Y = Y} step next (suc steps) i value h =
    let u = unfold_one step next steps i value h in
    let all : all_there (map (worth_within (strict step) next (suc steps)) (next i)) ≡ Some u.known =
    all_there-more (worth_within (strict step) next steps) (worth_within (strict step) next (suc steps)) (within-more step next steps) (next i) u.known u.there in
    ap (λ (known : Option (List Y)). option_and_then (step i) known) all ∙ u.made

pub unfold_within : {Y : Type 0} (step : ℕ → List Y → Option Y) (next : ℕ → List ℕ) (steps i : ℕ) (value : Y) → worth_within (strict step) next steps i ≡ Some value → Unfolds step next steps i value
unfold_within step next steps i value h = unfold_one step next steps i value (within-more step next steps i value h)
