use Rattle.std.proofs.Common.{take}
use Rattle.nm_graph.specs.Value.{strict, Valued}
use Rattle.nm_graph.proofs.walking.values.Given as goal

abbrev pub invariant-loop-node : goal.invariant-loop-node
invariant-loop-node g l = Valued (strict (g.V.Visitor.step l.visitor)) l.successors (take l.node-index l.order) l.values.items
