use Rattle.std.proofs.Common.{◌≡◌, drop}
use Rattle.std.specs.List.{list_any}
use Rattle.nm_incremental.specs.Whole.{passes_case}
use Rattle.nm_incremental.proofs.whole.any_cases.Given as goal

abbrev pub invariant-loop-row : goal.invariant-loop-row
invariant-loop-row l = list_any (passes_case l.schema) (drop l.row-index l.differing) ≡ list_any (passes_case l.schema) l.differing
