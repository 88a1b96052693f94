use Rattle.std.proofs.Common.{false}
use Rattle.nm_schema_leafref.specs.Place.{is_known_node}
use Rattle.nm_schema_leafref.proofs.Lists.{Lists}
use Rattle.nm_schema_leafref.proofs.tree.known_nodes.Given as goal

abbrev pub invariant-loop-node : goal.invariant-loop-node
invariant-loop-node l = Lists (is_known_node l.expansion) false l.node l.known.items
