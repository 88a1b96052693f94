use Rattle.std.proofs.Common.{take}
use Rattle.nm_graph.specs.Search.{IsSearch, Finds}
use Rattle.nm_graph.proofs.reach.find_all.Given as goal

-- the nodes before this one are found
abbrev pub invariant-loop-node : goal.invariant-loop-node
invariant-loop-node l = record {
  sound : IsSearch l.search;
  found : Finds l.initial.search (take l.node-index l.nodes) l.search;
}
