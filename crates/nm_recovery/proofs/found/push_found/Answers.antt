use Rattle.std.proofs.Common.{sym}
use Rattle.nm_recovery.proofs.found.push_found.Goals as goal

pub returns-in_ok-push-in-Started : goal.returns-in_ok-push-in-Started
returns-in_ok-push-in-Started c = rw (c.in-Started.is, sym (c.found_of.ensures)) (c.in_ok-push-in-Started.ensures.items)
