use Rattle.nm_touched.proofs.Exact.{ascends}
use Rattle.nm_touched.proofs.laws.touched_ascends.Goals as goal

pub returns : goal.returns
returns c = ascends
