use Rattle.nm_safety.proofs.Begun.{fresh_pair}
use Rattle.nm_safety.proofs.manager_side.beginnings_hold.Goals as goal

pub returns : goal.returns
returns g c = fresh_pair
