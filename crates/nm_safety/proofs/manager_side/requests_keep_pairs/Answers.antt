use Rattle.nm_safety.proofs.Turned.{turned_pair, renewed_pair}
use Rattle.nm_safety.proofs.manager_side.requests_keep_pairs.Goals as goal

pub returns-clause-sent : goal.returns-clause-sent
returns-clause-sent g c = λ change decided seat side r what request before quiet next is pair. turned_pair change seat side r what request decided before quiet next is pair

pub returns-clause-renewed : goal.returns-clause-renewed
returns-clause-renewed g c = λ change seat side r request before quiet acked is pair. renewed_pair change seat side r request before quiet acked is pair
