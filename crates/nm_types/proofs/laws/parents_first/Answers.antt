use Rattle.nm_types.proofs.OrderLaws.{path_cmp-prefix}
use Rattle.nm_types.proofs.laws.parents_first.Goals as goal

pub returns : goal.returns
returns c = path_cmp-prefix
