use Rattle.nm_schema.proofs.Faulting.{modules_faultless}
use Rattle.nm_schema.proofs.laws.faultless_have_tree.Goals as goal

pub returns : goal.returns
returns c = modules_faultless
