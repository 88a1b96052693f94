use Rattle.nm_access.proofs.Decisions.{all_permitted}
use Rattle.nm_access.proofs.laws.nobody_without_a_rule.Goals as goal

pub returns : goal.returns
returns c = λ access user rows default e. all_permitted access user rows default e
