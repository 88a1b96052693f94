use Rattle.std.proofs.Common.{◌≡◌, ℕ, ◌<◌, ◌≤◌, false}
use Rattle.nm_order.specs.Queue.{is_free}
use Rattle.nm_order.proofs.order.Order.take_ready.Given as goal

-- none of the change sets so far is free
abbrev pub invariant-loop-number : goal.invariant-loop-number
invariant-loop-number l = record { same : l.self ≡ l.fn.self; none : (other : ℕ) → 1 ≤ other → other < l.number → is_free l.fn.self other ≡ false }
