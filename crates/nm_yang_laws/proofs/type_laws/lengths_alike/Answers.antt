use Rattle.nm_yang_laws.proofs.Numbers.{lengths}
use Rattle.nm_yang_laws.proofs.type_laws.lengths_alike.Goals as goal

pub returns : goal.returns
returns c = lengths
