use Rattle.nm_validate_rules.proofs.Sampled.{none-told, two-told}
use Rattle.nm_validate_rules.proofs.laws.choices_told.Goals as goal

pub returns-clause-missing : goal.returns-clause-missing
returns-clause-missing c = none-told

pub returns-clause-two : goal.returns-clause-two
returns-clause-two c = two-told
