use Rattle.std.proofs.Common.{◌-◌, length}
use Rattle.nm_graph.specs.Search.{IsReaching}
use Rattle.nm_graph.proofs.reach.reached.Given as goal

-- the nodes before the next have their successors found
abbrev pub invariant-loop-next : goal.invariant-loop-next
invariant-loop-next l = IsReaching l.successors l.starts l.next l.search

abbrev pub decreases-loop-next : goal.decreases-loop-next
decreases-loop-next l = length l.successors - l.next
