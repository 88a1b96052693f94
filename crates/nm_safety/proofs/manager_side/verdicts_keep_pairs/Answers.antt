use Rattle.nm_safety.proofs.Cut.{decided_pair}
use Rattle.nm_safety.proofs.manager_side.verdicts_keep_pairs.Goals as goal

pub returns : goal.returns
returns g c = λ change v seat wire r acked pair. decided_pair change seat wire r v acked pair
