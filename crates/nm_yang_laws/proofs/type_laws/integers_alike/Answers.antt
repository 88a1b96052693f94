use Rattle.nm_yang_laws.proofs.Numbers.{integers}
use Rattle.nm_yang_laws.proofs.type_laws.integers_alike.Goals as goal

pub returns : goal.returns
returns c = integers
