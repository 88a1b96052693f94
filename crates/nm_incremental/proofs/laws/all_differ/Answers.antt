use Rattle.nm_incremental.proofs.Covering.{differ_among}
use Rattle.nm_incremental.proofs.laws.all_differ.Goals as goal

pub returns : goal.returns
returns c = differ_among
