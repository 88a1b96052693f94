use Rattle.nm_validate_rules.proofs.Joined.{changed_is_read}
use Rattle.nm_validate_rules.proofs.read_laws.is_read.Goals as goal

pub returns : goal.returns
returns c = changed_is_read
