use Rattle.std.proofs.Common.{None}
use Rattle.nm_schema_leafref.specs.Walk.{led_to}
use Rattle.nm_schema_leafref.proofs.Lists.{Lists}
use Rattle.nm_schema_leafref.proofs.leds.leds.Given as goal

abbrev pub invariant-loop-node : goal.invariant-loop-node
invariant-loop-node l = Lists (led_to l.scene.typedefs l.scene.tree) None l.node l.leds.items
