use Rattle.nm_config.proofs.Contiguous.{under-later}
use Rattle.nm_config.proofs.laws.under_later.Goals as goal

pub returns : goal.returns
returns c = under-later
