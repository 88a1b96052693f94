use Rattle.std.proofs.Common.{◌<◌, All, take, length}
use Rattle.nm_graph.proofs.edges.is_graph.Given as goal

abbrev pub invariant-loop-nodes : goal.invariant-loop-nodes
invariant-loop-nodes l = All (λ row. All (λ node. node < length l.successors) row.items) (take l.nodes-index l.successors)
