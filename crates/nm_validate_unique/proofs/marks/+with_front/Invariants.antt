use Rattle.std.proofs.Common.{length}
use Rattle.nm_validate_unique.proofs.marks.+with_front.Given as goal

abbrev pub decreases-with_front : goal.decreases-with_front
decreases-with_front l = length l.steps.now
