use Rattle.nm_touched.proofs.Exact.{refused}
use Rattle.nm_touched.proofs.laws.touched_refused.Goals as goal

pub returns : goal.returns
returns c = refused
