use Rattle.nm_schema_leafref.proofs.Ones.{one-fault}
use Rattle.nm_schema_leafref.proofs.laws.one_fault.Goals as goal

pub returns : goal.returns
returns c = one-fault
