use Rattle.nm_yang_laws.proofs.Bits.{rise}
use Rattle.nm_yang_laws.proofs.type_laws.bits_rise.Goals as goal

pub returns : goal.returns
returns c = rise
