use Rattle.std.proofs.Common.{◌≡◌, take, drop}
use Rattle.std.specs.List.{list_any}
use Rattle.nm_order.specs.Queue.{is_of, is_ready, ready_behind}
use Rattle.nm_order.proofs.order.Order.is_ready.Given as goal

-- the change set isn't ready among the tickets so far
abbrev pub invariant-loop-place : goal.invariant-loop-place
invariant-loop-place l = list_any (is_of l.change) (ready_behind l.self-inside.finished.0 (take l.place l.tickets) (drop l.place l.tickets)) ≡ is_ready l.fn.self l.change
