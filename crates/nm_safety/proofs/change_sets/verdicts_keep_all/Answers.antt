use Rattle.nm_safety.proofs.Slots.{decided_holds}
use Rattle.nm_safety.proofs.change_sets.verdicts_keep_all.Goals as goal

pub returns : goal.returns
returns g c = λ change v slot devices acked all. decided_holds change devices slot v acked all
