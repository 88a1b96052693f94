use Rattle.std.proofs.Common.{All, take}
use Rattle.nm_graph.specs.Order.{IsMarked}
use Rattle.nm_graph.proofs.growing.first_unmarked.Given as goal

abbrev pub invariant-loop-node : goal.invariant-loop-node
invariant-loop-node l = All (IsMarked l.marks) (take l.node-index l.nodes)
