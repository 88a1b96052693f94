use Rattle.nm_incremental.proofs.Joined.{violation_found}
use Rattle.nm_incremental.proofs.laws.violation_is_found.Goals as goal

pub returns : goal.returns
returns c = violation_found
