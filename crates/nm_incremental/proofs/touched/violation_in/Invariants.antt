use Rattle.std.proofs.Common.{◌≡◌, ◌≤◌, ◌+◌, drop, length}
use Rattle.nm_validate_rules.specs.Rule.{all_rules}
use Rattle.nm_incremental.specs.Read.{all_judged, first_found}
use Rattle.nm_incremental.proofs.touched.violation_in.Given as goal

abbrev pub invariant-loop-rule : goal.invariant-loop-rule
invariant-loop-rule g l =
    (first_found l.schema (g.M.RowMap.rows l.next) l.differing (drop l.rule-index l.rule-items) ≡ first_found l.schema (g.M.RowMap.rows l.next) l.differing all_rules)
    × (l.steps + length (all_judged l.schema l.differing (drop l.rule-index l.rule-items)) ≤ l.fn.steps + length (all_judged l.schema l.differing all_rules))
