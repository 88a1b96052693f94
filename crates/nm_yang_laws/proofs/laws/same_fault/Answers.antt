use Rattle.nm_yang_laws.proofs.Same.{same-fault}
use Rattle.nm_yang_laws.proofs.laws.same_fault.Goals as goal

pub returns : goal.returns
returns c = same-fault
