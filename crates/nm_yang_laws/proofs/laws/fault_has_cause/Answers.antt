use Rattle.nm_yang_laws.proofs.Caused.{fault-causes}
use Rattle.nm_yang_laws.proofs.laws.fault_has_cause.Goals as goal

pub returns : goal.returns
returns c = fault-causes
