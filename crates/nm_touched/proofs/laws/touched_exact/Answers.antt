use Rattle.nm_touched.proofs.Exact.{exact}
use Rattle.nm_touched.proofs.laws.touched_exact.Goals as goal

pub returns : goal.returns
returns c = exact
