use Rattle.std.proofs.Common.{◌≡◌, ◌<◌, ◌∙◌, length, true, ap, sym, arith}
use Rattle.nm_notify.specs.Subscribers.{is_numbered}
use Rattle.nm_notify.proofs.Left.{stepped_so}
use Rattle.nm_notify.proofs.subscriber.take_place.Goals as goal

pub returns-then-is_numbered-clause-after : goal.returns-then-is_numbered-clause-after
returns-then-is_numbered-clause-after c =
    let same = ap length c.loop-at.invariant.same in
    let within : c.loop-at.at < length c.loop-at.subscribers.items = omega (arith, same, c.len-at-end.ensures) in
    let named : is_numbered c.args.number c.index.result.now ≡ true = sym c.is_numbered.ensures ∙ c.if-is_numbered.true in
    stepped_so c.args.number c.args.end c.loop-at.subscribers.items c.args.subscribers.now.items c.loop-at.at c.index.result.now within c.index.ensures named
    c.if-subscriber-end.false c.loop-at.invariant.same c.loop-at.invariant.after
