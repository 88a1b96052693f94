use Rattle.std.proofs.Common.{◌≡◌}
use Rattle.std.specs.FinMap.{empty}
use Rattle.serde_json.specs.View.{members_view}
use Rattle.nm_scenario_form.specs.Reading.{natural_of}
use Rattle.nm_scenario.specs.Flat.{entries_read}
use Rattle.nm_scenario.proofs.flat.cells.Given as goal

-- what is left goes on from the cells found
abbrev pub invariant-loop-name : goal.invariant-loop-name
invariant-loop-name l = entries_read natural_of l.found (members_view l.name-iterator) ≡ entries_read natural_of empty (members_view l.fn.members.entries)
