use Rattle.nm_validate_rules.proofs.Reached.{reaches_by}
use Rattle.nm_validate_rules.proofs.read_laws.is_reached.Goals as goal

pub returns : goal.returns
returns c = reaches_by
