-- Counts and weights of what is seen as JSON.
use Rattle.std.proofs.Common.{◌≡◌, List, [], ◌∷◌, length, refl, arith}
use Rattle.serde_json.specs.View.{items_view}
use Rattle.serde_json.specs.declared.value.Value.{Value}
use Rattle.nm_scenario_form.specs.Reading.{count_of}
use Rattle.nm_scenario_form.specs.Says.{total}
use Rattle.nm_scenario_form.specs.Leafs.{one}

pub count_of-items_view : (vs : List Value) → count_of (items_view vs) ≡ length vs
count_of-items_view [] = refl
count_of-items_view (v ∷ vs) = omega (arith, count_of-items_view vs)

-- items that each weigh one weigh as much as there are
pub total-one : (vs : List Value) → total one (items_view vs) ≡ length vs
total-one [] = refl
total-one (v ∷ vs) = omega (arith, total-one vs)

pub ruleset counts = (count_of-items_view, total-one)
