use Rattle.nm_decider.proofs.Acks.{acked_done}
use Rattle.nm_decider.proofs.laws.acknowledged_commits_were_done.Goals as goal

pub returns : goal.returns
returns c place change devices moves acknowledged = acked_done place change devices moves acknowledged
