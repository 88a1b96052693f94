use Rattle.std.proofs.Common.{[], refl}
use Rattle.nm_order.proofs.Heads.{ready_apart, first_ready}
use Rattle.nm_order.proofs.queue.queues_move_on.Goals as goal

pub returns-clause-first : goal.returns-clause-first
returns-clause-first c finished taken before later ticket before_done unfinished = first_ready finished [] before later ticket refl before_done unfinished

pub returns-clause-apart : goal.returns-clause-apart
returns-clause-apart c order = ready_apart order.finished [] order.tickets
