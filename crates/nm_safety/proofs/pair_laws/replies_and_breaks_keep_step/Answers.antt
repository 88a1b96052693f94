use Rattle.nm_safety.proofs.PairSteps.{received_stays, broken_stays, lost_stays}
use Rattle.nm_safety.proofs.pair_laws.replies_and_breaks_keep_step.Goals as goal

pub returns-clause-handled : goal.returns-clause-handled
returns-clause-handled c = λ change devices entries slot device link number in_step numbered. received_stays change devices entries slot in_step device numbered link number

pub returns-clause-broken : goal.returns-clause-broken
returns-clause-broken c = λ change devices entries slot device in_step numbered. broken_stays change devices entries slot in_step device numbered

pub returns-clause-forgotten : goal.returns-clause-forgotten
returns-clause-forgotten c = lost_stays
