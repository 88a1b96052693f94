use Rattle.nm_access_laws.proofs.Judging.{only_foreign}
use Rattle.nm_access_laws.proofs.laws.only_operators_are_judged.Goals as goal

pub returns : goal.returns
returns c = only_foreign
