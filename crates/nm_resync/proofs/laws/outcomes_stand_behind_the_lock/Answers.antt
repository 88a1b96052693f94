use Rattle.nm_resync.proofs.Known.{behind_lock}
use Rattle.nm_resync.proofs.laws.outcomes_stand_behind_the_lock.Goals as goal

pub returns : goal.returns
returns c commit kept replies h = behind_lock commit kept replies h
