use Rattle.std.proofs.Common.{take}
use Rattle.nm_manager.specs.Queues.{IsOrderOf}
use Rattle.nm_manager.proofs.journal_queues.order_of.Given as goal

-- the queues are those that the entries so far tell
abbrev pub invariant-loop-place : goal.invariant-loop-place
invariant-loop-place l = IsOrderOf (take l.place l.entries) l.order
