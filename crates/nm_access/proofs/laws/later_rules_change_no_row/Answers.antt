use Rattle.nm_access.proofs.Decisions.{row_kept}
use Rattle.nm_access.proofs.laws.later_rules_change_no_row.Goals as goal

pub returns : goal.returns
returns c = row_kept
