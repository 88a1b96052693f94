use Rattle.nm_validate_rules.proofs.Telling.{violation_is_told}
use Rattle.nm_validate_rules.proofs.laws.violation_is_least.Goals as goal

pub returns : goal.returns
returns c = violation_is_told
