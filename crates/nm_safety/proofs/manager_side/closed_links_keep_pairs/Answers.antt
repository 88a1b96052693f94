use Rattle.nm_safety.proofs.Cut.{closed_pair, restarted_pair}
use Rattle.nm_safety.proofs.manager_side.closed_links_keep_pairs.Goals as goal

pub returns-clause-lost : goal.returns-clause-lost
returns-clause-lost g c = λ change decided seat wire r number pair. closed_pair change decided seat wire r number pair

pub returns-clause-restarted : goal.returns-clause-restarted
returns-clause-restarted g c = λ change decided seat wire r pair. restarted_pair change decided seat wire r pair
