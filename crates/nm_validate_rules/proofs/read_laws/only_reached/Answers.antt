use Rattle.nm_validate_rules.proofs.Reached.{violated_reached}
use Rattle.nm_validate_rules.proofs.read_laws.only_reached.Goals as goal

pub returns : goal.returns
returns c = violated_reached
