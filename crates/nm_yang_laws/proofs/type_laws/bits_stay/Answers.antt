use Rattle.nm_yang_laws.proofs.Bits.{stay}
use Rattle.nm_yang_laws.proofs.type_laws.bits_stay.Goals as goal

pub returns : goal.returns
returns c = stay
