use Rattle.nm_schema.proofs.Single.{one_given}
use Rattle.nm_schema.proofs.laws.one_answer.Goals as goal

pub returns : goal.returns
returns c = one_given
