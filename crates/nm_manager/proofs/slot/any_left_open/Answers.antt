use Rattle.nm_manager.proofs.Left.{none_first, none_next, none_left}
use Rattle.nm_manager.proofs.slot.any_left_open.Goals as goal

pub loop-side-init : goal.loop-side-init
loop-side-init c = none_first c.args.sides.now

pub loop-side-preserved : goal.loop-side-preserved
loop-side-preserved c =
    none_next c.args.sides.now c.loop-side.side-index c.side-item.result c.loop-side-test.true c.side-item.is c.loop-side.invariant
    (c.has_left_open.ensures c.if-has_left_open.false)

pub returns : goal.returns
returns c _ = none_left c.args.sides.now c.loop-side.side-index c.loop-side-test.false c.loop-side.invariant
