use Rattle.std.proofs.Common.{length}
use Rattle.nm_validate_unique.proofs.near.+are_bare.Given as goal

abbrev pub decreases-are_bare : goal.decreases-are_bare
decreases-are_bare l = length l.nodes.now
