use Rattle.nm_overlay.proofs.Changed.{overridden-differences}
use Rattle.nm_overlay.proofs.laws.overridden_again.Goals as goal

pub returns : goal.returns
returns c = overridden-differences
