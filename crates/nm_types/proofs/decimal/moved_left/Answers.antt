use Rattle.nm_types.proofs.Decimals.{top-step}
use Rattle.nm_types.proofs.decimal.moved_left.Goals as goal

pub loop-place-preserved : goal.loop-place-preserved
loop-place-preserved c = top-step c.loop-place.moved c.args.number c.loop-place._place c.min-moved.result c.loop-place.invariant c.min-moved.ensures
