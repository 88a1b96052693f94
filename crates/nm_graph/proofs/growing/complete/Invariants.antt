use Rattle.std.proofs.Common.{◌-◌, length}
use Rattle.nm_graph.specs.Order.{Tells}
use Rattle.nm_graph.proofs.growing.complete.Given as goal

abbrev pub invariant-loop : goal.invariant-loop
invariant-loop l = Tells l.successors l.nodes.items l.marks.items

abbrev pub decreases-loop : goal.decreases-loop
decreases-loop l = length l.successors - length l.nodes.items
