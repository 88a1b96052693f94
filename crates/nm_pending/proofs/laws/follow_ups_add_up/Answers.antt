use Rattle.nm_pending.proofs.Follows.{adds_up}
use Rattle.nm_pending.proofs.laws.follow_ups_add_up.Goals as goal

-- src/laws.rt:40:1
pub returns : goal.returns
returns g c pending ups = adds_up pending ups
