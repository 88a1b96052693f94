use Rattle.nm_access.proofs.Decisions.{over_means}
use Rattle.nm_access.proofs.laws.paths_are_over_what_they_begin.Goals as goal

pub returns : goal.returns
returns c = over_means
