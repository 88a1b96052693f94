use Rattle.nm_resync.proofs.Known.{learns_rightly}
use Rattle.nm_resync.proofs.laws.replies_alone_tell.Goals as goal

pub returns : goal.returns
returns c commit stage told = learns_rightly commit stage told
