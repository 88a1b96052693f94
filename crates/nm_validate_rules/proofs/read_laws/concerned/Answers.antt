use Rattle.nm_validate_rules.proofs.Concerned.{read_concerns}
use Rattle.nm_validate_rules.proofs.read_laws.concerned.Goals as goal

pub returns : goal.returns
returns c = read_concerns
