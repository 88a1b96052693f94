use Rattle.nm_graph.specs.Order.{Tells}
use Rattle.nm_graph.proofs.sorting.add_each.Given as goal

abbrev pub invariant-loop-node : goal.invariant-loop-node
invariant-loop-node l = Tells l.successors l.nodes.items l.marks.items
