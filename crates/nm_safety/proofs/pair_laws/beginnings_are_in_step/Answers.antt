use Rattle.nm_safety.proofs.PairSteps.{fresh_stays, anew_stays}
use Rattle.nm_safety.proofs.pair_laws.beginnings_are_in_step.Goals as goal

pub returns-clause-fresh : goal.returns-clause-fresh
returns-clause-fresh c = fresh_stays

pub returns-clause-anew : goal.returns-clause-anew
returns-clause-anew c = anew_stays
