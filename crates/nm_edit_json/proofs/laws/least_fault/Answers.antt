use Rattle.nm_edit_json.proofs.Least.{fault_law}
use Rattle.nm_edit_json.proofs.laws.least_fault.Goals as goal

pub returns : goal.returns
returns c = fault_law
