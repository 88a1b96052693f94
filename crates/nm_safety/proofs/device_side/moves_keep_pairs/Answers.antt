use Rattle.nm_safety.proofs.Moved.{moved_pair}
use Rattle.nm_safety.proofs.device_side.moves_keep_pairs.Goals as goal

pub returns : goal.returns
returns g c = λ change decided seat wire entry before after moves pair. moved_pair change wire entry before after moves decided seat pair
