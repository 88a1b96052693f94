use Rattle.nm_validate_rules.proofs.Joined.{rules_agree}
use Rattle.nm_validate_rules.proofs.read_laws.agree.Goals as goal

pub returns : goal.returns
returns c = rules_agree
