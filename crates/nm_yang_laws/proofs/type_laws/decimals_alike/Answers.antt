use Rattle.nm_yang_laws.proofs.Numbers.{decimals}
use Rattle.nm_yang_laws.proofs.type_laws.decimals_alike.Goals as goal

pub returns : goal.returns
returns c = decimals
