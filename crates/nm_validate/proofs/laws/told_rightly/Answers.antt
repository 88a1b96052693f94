use Rattle.nm_validate.proofs.Told.{rightly}
use Rattle.nm_validate.proofs.laws.told_rightly.Goals as goal

pub returns : goal.returns
returns c = rightly
