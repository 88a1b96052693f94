use Rattle.std.proofs.Common.{◌≡◌, drop}
use Rattle.nm_validate_rules.specs.Rule.{all_rules}
use Rattle.nm_validate_rules.specs.Violation.{first_told}
use Rattle.nm_validate.proofs.violation.violation_of.Given as goal

abbrev pub invariant-loop-rule : goal.invariant-loop-rule
invariant-loop-rule g l =
    first_told l.schema (g.M.RowMap.rows l.config) (drop l.rule-index l.rule-items) ≡ first_told l.schema (g.M.RowMap.rows l.config) all_rules
