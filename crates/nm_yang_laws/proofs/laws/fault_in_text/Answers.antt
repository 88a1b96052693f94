use Rattle.nm_yang_laws.proofs.Caused.{fault-place}
use Rattle.nm_yang_laws.proofs.laws.fault_in_text.Goals as goal

pub returns : goal.returns
returns c = fault-place
