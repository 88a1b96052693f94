use Rattle.nm_schema_leafref.specs.Target.{up_of}
use Rattle.nm_schema_leafref.proofs.Lists.{Lists}
use Rattle.nm_schema_leafref.proofs.leds.ups.Given as goal

abbrev pub invariant-loop-node : goal.invariant-loop-node
invariant-loop-node l = Lists (up_of l.scene.typedefs l.scene.tree) 0 l.node l.ups.items
