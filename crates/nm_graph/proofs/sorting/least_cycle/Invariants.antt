use Rattle.nm_graph.specs.Order.{NoneBelow}
use Rattle.nm_graph.proofs.sorting.least_cycle.Given as goal

abbrev pub invariant-loop-node : goal.invariant-loop-node
invariant-loop-node l = NoneBelow l.successors l.node
