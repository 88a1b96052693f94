use Rattle.nm_incremental.proofs.Bounding.{bounded}
use Rattle.nm_incremental.proofs.laws.steps_are_bounded.Goals as goal

pub returns : goal.returns
returns c = bounded
