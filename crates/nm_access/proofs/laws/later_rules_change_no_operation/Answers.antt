use Rattle.nm_access.proofs.Decisions.{operation_kept}
use Rattle.nm_access.proofs.laws.later_rules_change_no_operation.Goals as goal

pub returns : goal.returns
returns c = operation_kept
