use Rattle.std.proofs.Common.{refl}
use Rattle.nm_validate_unique.proofs.Down.{found_on}
use Rattle.nm_validate_unique.proofs.ways.ways_to.Goals as goal

pub loop-leaf-preserved : goal.loop-leaf-preserved
loop-leaf-preserved c =
    found_on c.args.schema.now c.args.leafs.now c.loop-leaf.leaf-index c.loop-leaf.ways.items c.push.new.self.items _ c.loop-leaf-test.true refl c.in_ok-nodes.ensures c.in_ok-push.ensures.items c.loop-leaf.invariant
