use Rattle.nm_types.proofs.OrderLaws.{spells-one}
use Rattle.nm_types.proofs.laws.one_value.Goals as goal

pub returns : goal.returns
returns c = spells-one
