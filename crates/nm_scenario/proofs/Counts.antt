-- Counts of what is seen as JSON.
use Rattle.std.proofs.Common.{◌≡◌, List, [], ◌∷◌, length, refl, arith, String}
use Rattle.serde_json.specs.declared.value.Value.{Value}
use Rattle.std.specs.declared.alloc.Global.{Global}
use Rattle.serde_json.specs.View.{members_view}
use Rattle.nm_scenario_form.proofs.Lengths.{count_of-items_view}
use Rattle.nm_scenario.specs.Flat.{member_count}

pub member_count-members_view : (ms : List (String Global × Value)) → member_count (members_view ms) ≡ length ms
member_count-members_view [] = refl
member_count-members_view (m ∷ ms) = omega (arith, member_count-members_view ms)

pub ruleset counts = (count_of-items_view, member_count-members_view)
