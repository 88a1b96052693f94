use Rattle.std.proofs.Common.{length}
use Rattle.nm_validate_unique.proofs.marks.+with_values.Given as goal

abbrev pub decreases-with_values : goal.decreases-with_values
decreases-with_values l = length l.values.now
