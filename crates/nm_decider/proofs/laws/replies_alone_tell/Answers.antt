use Rattle.nm_decider.proofs.Told.{told_alone}
use Rattle.nm_decider.proofs.laws.replies_alone_tell.Goals as goal

pub returns : goal.returns
returns c decided stage what reply = told_alone decided stage what reply
