use Rattle.std.proofs.Common.{length}
use Rattle.nm_config.proofs.rough.+with_bytes.Given as goal

abbrev pub decreases-with_bytes : goal.decreases-with_bytes
decreases-with_bytes l = length l.bytes.now
