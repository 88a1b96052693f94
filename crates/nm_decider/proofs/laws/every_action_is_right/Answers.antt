use Rattle.nm_decider.proofs.Actions.{rightly}
use Rattle.nm_decider.proofs.laws.every_action_is_right.Goals as goal

pub returns : goal.returns
returns c course long = rightly course long
