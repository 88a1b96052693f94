use Rattle.std.proofs.Common.{◌<◌, ap, ◌∙◌, length, arith}
use Rattle.nm_work.specs.Work.{anew}
use Rattle.nm_wire.proofs.Changed.{changed_at}
use Rattle.nm_work.proofs.work.all_anew.Goals as goal

pub loop-place-preserved : goal.loop-place-preserved
loop-place-preserved c =
    let within : c.loop-place.place < length c.args.sides.now.items = omega (arith, c.len-place-end.ensures) in
    changed_at (anew c.args.commit) c.args.sides.now.items c.loop-place.sides.items c.loop-place.place c.index_mut.result.now c.anew.new.self
    c.loop-place.invariant within (c.anew.ensures ∙ ap (anew c.args.commit) c.index_mut.ensures.value)
