use Rattle.nm_overlay.proofs.Changed.{get-differences}
use Rattle.nm_overlay.proofs.laws.differences_exact.Goals as goal

pub returns : goal.returns
returns c = get-differences
