use Rattle.std.proofs.Common.{◌≡◌, length}
use Rattle.std.specs.Prelude.{option_copied}
use Rattle.std.specs.FinMap.{keys}
use Rattle.nm_validate_rules.specs.Violated.{children_of, first_other}
use Rattle.nm_validate_places.proofs.Counting.{IsBehind, from_first}
use Rattle.nm_validate.specs.Others.{other_from}
use Rattle.nm_validate.proofs.Scanned.{to_come}
use Rattle.nm_validate.proofs.child.first_other.Given as goal

abbrev pub invariant-rows : goal.invariant-rows
invariant-rows g l =
    let rows = g.M.RowMap.rows l.config in
    (other_from l.first (to_come l.schema l.choice l.above rows (option_copied l.at)) ≡ first_other (children_of l.schema rows l.choice l.above)) × IsBehind l.above (option_copied l.at)

abbrev pub decreases-rows : goal.decreases-rows
decreases-rows g l = length (from_first (keys (g.M.RowMap.rows l.config)) (option_copied l.at))
