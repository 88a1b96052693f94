use Rattle.std.proofs.Common.{◌<◌, ◌∙◌, sym, ap, length, arith}
use Rattle.nm_wire.proofs.Changed.{closed_more}
use Rattle.nm_wire.proofs.wire.first_open.Goals as goal

pub loop-place-preserved : goal.loop-place-preserved
loop-place-preserved c =
    let within : c.loop-place.place < length c.args.links.now = omega arith in
    closed_more c.args.links.now c.loop-place.place c.index-links-place.result c.loop-place.invariant within
    (sym (ap (λ link. link.is_open) c.index-links-place.is) ∙ (sym c.is_open.ensures ∙ c.if-is_open.false))
