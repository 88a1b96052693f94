use Rattle.std.proofs.Common.{length}
use Rattle.nm_validate_unique.proofs.near.+leads_on.Given as goal

abbrev pub decreases-leads_on : goal.decreases-leads_on
decreases-leads_on l = length l.entry.now
