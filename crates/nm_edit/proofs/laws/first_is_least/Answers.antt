use Rattle.nm_edit.proofs.Firsts.{first_is}
use Rattle.nm_edit.proofs.laws.first_is_least.Goals as goal

pub returns : goal.returns
returns c = first_is
