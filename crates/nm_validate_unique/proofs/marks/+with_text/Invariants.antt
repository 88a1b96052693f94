use Rattle.std.proofs.Common.{length}
use Rattle.nm_validate_unique.proofs.marks.+with_text.Given as goal

abbrev pub decreases-with_text : goal.decreases-with_text
decreases-with_text l = length l.text.now
