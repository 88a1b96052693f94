use Rattle.nm_validate_rules.proofs.Guarding.{case_tells}
use Rattle.nm_validate_rules.proofs.laws.cases_tell.Goals as goal

pub returns : goal.returns
returns c = case_tells
