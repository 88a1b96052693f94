use Rattle.nm_explain.proofs.Saying.{one_explanation as one}
use Rattle.nm_explain.proofs.laws.one_explanation.Goals as goal

pub returns : goal.returns
returns c = one
