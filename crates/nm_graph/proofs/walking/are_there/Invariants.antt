use Rattle.std.proofs.Common.{All, take}
use Rattle.nm_graph.proofs.Valuing.{HasValue}
use Rattle.nm_graph.proofs.walking.are_there.Given as goal

abbrev pub invariant-loop-node : goal.invariant-loop-node
invariant-loop-node g l = All (HasValue l.values) (take l.node-index l.nodes)
