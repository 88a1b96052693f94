use Rattle.nm_decider.proofs.Actions.{waits_rightly}
use Rattle.nm_decider.proofs.laws.waits_are_for_replies.Goals as goal

pub returns : goal.returns
returns c course = waits_rightly course
