use Rattle.std.proofs.Common.{◌<◌, All, take}
use Rattle.nm_graph.proofs.edges.are_below.Given as goal

abbrev pub invariant-loop-node : goal.invariant-loop-node
invariant-loop-node l = All (λ node. node < l.count) (take l.node-index l.nodes)
