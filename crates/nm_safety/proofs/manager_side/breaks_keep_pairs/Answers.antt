use Rattle.nm_safety.proofs.Cut.{broken_pair, lost_pair, anew_pair}
use Rattle.nm_safety.proofs.manager_side.breaks_keep_pairs.Goals as goal

pub returns-clause-broken : goal.returns-clause-broken
returns-clause-broken g c = λ change decided seat wire r pair. broken_pair change seat wire r decided pair

pub returns-clause-forgotten : goal.returns-clause-forgotten
returns-clause-forgotten g c = λ change decided seat wire r devices device member pair. lost_pair change seat wire r decided devices device member pair

pub returns-clause-anew : goal.returns-clause-anew
returns-clause-anew g c = λ change decided seat wire r devices device member none pair. anew_pair change seat wire r decided devices device member none pair
