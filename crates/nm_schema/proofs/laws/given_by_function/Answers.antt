use Rattle.nm_schema.proofs.Faulting.{builds_given}
use Rattle.nm_schema.proofs.laws.given_by_function.Goals as goal

pub returns : goal.returns
returns c = builds_given
