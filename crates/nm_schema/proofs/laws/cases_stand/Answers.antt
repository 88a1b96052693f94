use Rattle.nm_schema.proofs.Cased.{modules_cased}
use Rattle.nm_schema.proofs.laws.cases_stand.Goals as goal

pub returns : goal.returns
returns c = modules_cased
