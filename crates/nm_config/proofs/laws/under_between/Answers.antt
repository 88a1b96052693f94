use Rattle.nm_config.proofs.Contiguous.{under-between}
use Rattle.nm_config.proofs.laws.under_between.Goals as goal

pub returns : goal.returns
returns c = under-between
