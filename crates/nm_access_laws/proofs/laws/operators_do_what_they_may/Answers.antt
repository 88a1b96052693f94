use Rattle.nm_access_laws.proofs.Judging.{kept}
use Rattle.nm_access_laws.proofs.laws.operators_do_what_they_may.Goals as goal

pub returns : goal.returns
returns c access t setting running events proper = (kept access t setting running events proper).allowed
