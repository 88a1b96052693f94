use Rattle.std.proofs.Common.{sym, subst}
use Rattle.nm_order.specs.Queue.{IsOnce}
use Rattle.nm_order.proofs.Once.{once_none}
use Rattle.nm_order.proofs.order.Order.new.Goals as goal

pub invariant_of-result : goal.invariant_of-result
invariant_of-result c = subst IsOnce (sym c.new.ensures) once_none
