use Rattle.std.proofs.Common.{◌≡◌, drop}
use Rattle.std.specs.List.{list_any}
use Rattle.nm_validate_rules.specs.declared.rule.Rule.TheVariants.{Unique}
use Rattle.nm_validate_rules.specs.Concerns.{concerns}
use Rattle.nm_incremental.proofs.whole.any_uniques.Given as goal

abbrev pub invariant-loop-row : goal.invariant-loop-row
invariant-loop-row l = list_any (concerns l.schema Unique) (drop l.row-index l.differing) ≡ list_any (concerns l.schema Unique) l.differing
