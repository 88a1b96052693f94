use Rattle.nm_schema_leafref.proofs.Faults.{AreNoted}
use Rattle.nm_schema_leafref.proofs.fault.faults.Given as goal

abbrev pub invariant-loop-node : goal.invariant-loop-node
invariant-loop-node l = AreNoted l.scene.typedefs l.scene.tree l.node l.faults.items
