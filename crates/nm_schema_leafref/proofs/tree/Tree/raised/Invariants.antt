use Rattle.std.proofs.Common.{◌≡◌}
use Rattle.nm_schema_leafref.specs.declared.led.Spot.TheVariants as spots
use Rattle.nm_schema_leafref.specs.Walk as spec
use Rattle.nm_schema_leafref.proofs.tree.Tree.raised.Given as goal

abbrev pub invariant-loop-left : goal.invariant-loop-left
invariant-loop-left l = spec.raised l.self l.left l.spot ≡ spec.raised l.self l.ups (spots.Node l.from)

abbrev pub decreases-loop-left : goal.decreases-loop-left
decreases-loop-left l = l.left
