use Rattle.std.proofs.Common.{◌<◌, ap, ◌∙◌, length, arith}
use Rattle.nm_wire.specs.Link.{closed_link}
use Rattle.nm_wire.proofs.Changed.{closed_before, changed_at}
use Rattle.nm_wire.proofs.wire.close_from.Goals as goal

pub loop-place-init : goal.loop-place-init
loop-place-init c = closed_before c.args.links.now.items c.args.from c.requires.closed

pub loop-place-preserved : goal.loop-place-preserved
loop-place-preserved c =
    let within : c.loop-place.place < length c.args.links.now.items = omega (arith, c.len-place-end.ensures) in
    changed_at closed_link c.args.links.now.items c.loop-place.links.items c.loop-place.place c.index_mut.result.now c.close.new.self
    c.loop-place.invariant within (c.close.ensures ∙ ap closed_link c.index_mut.ensures.value)
