use Rattle.nm_access.proofs.Decisions.{names_rule}
use Rattle.nm_access.proofs.laws.denials_name_their_rule.Goals as goal

pub returns : goal.returns
returns c = names_rule
