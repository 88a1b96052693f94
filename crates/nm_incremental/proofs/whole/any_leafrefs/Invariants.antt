use Rattle.std.proofs.Common.{◌≡◌, drop}
use Rattle.std.specs.List.{list_any}
use Rattle.nm_validate_rules.specs.declared.rule.Rule.TheVariants.{Leafref}
use Rattle.nm_validate_rules.specs.Concerns.{concerns}
use Rattle.nm_incremental.proofs.whole.any_leafrefs.Given as goal

abbrev pub invariant-loop-row : goal.invariant-loop-row
invariant-loop-row l = list_any (concerns l.schema Leafref) (drop l.row-index l.differing) ≡ list_any (concerns l.schema Leafref) l.differing
