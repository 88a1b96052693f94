use Rattle.std.proofs.Common.{◌≡◌, drop, fold}
use Rattle.std.specs.FinMap.{empty}
use Rattle.nm_edit.specs.Standing.{with_node}
use Rattle.nm_edit.proofs.said.said_of.Given as goal

abbrev pub invariant-loop-node : goal.invariant-loop-node
invariant-loop-node l = fold with_node l.said (drop l.node-index l.nodes) ≡ fold with_node empty l.nodes
