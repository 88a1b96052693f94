use Rattle.nm_manager.proofs.Kept.{not_ready}
use Rattle.nm_manager.proofs.laws.change_sets_wait_their_turn.Goals as goal

pub returns : goal.returns
returns c = not_ready
