use Rattle.nm_safety.proofs.PairSteps.{decided_stays, entered_stays}
use Rattle.nm_safety.proofs.pair_laws.entries_keep_step.Goals as goal

pub returns-clause-decided : goal.returns-clause-decided
returns-clause-decided c = decided_stays

pub returns-clause-other : goal.returns-clause-other
returns-clause-other c = entered_stays
