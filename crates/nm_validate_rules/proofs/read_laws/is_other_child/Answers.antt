use Rattle.nm_validate_rules.proofs.Others.{other_child}
use Rattle.nm_validate_rules.proofs.read_laws.is_other_child.Goals as goal

pub returns : goal.returns
returns c = other_child
