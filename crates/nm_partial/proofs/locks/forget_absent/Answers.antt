use Rattle.std.proofs.Common.{◌<◌, length, arith}
use Rattle.nm_partial.specs.Partial.{without_absent}
use Rattle.nm_partial.proofs.Changed.{changed_at}
use Rattle.nm_partial.proofs.locks.forget_absent.Goals as goal

pub loop-lock-preserved : goal.loop-lock-preserved
loop-lock-preserved g c =
    let within : c.loop-lock.lock-index < length c.deref_mut-lock-items.result.now = omega arith in
    changed_at (without_absent (g.C.Content.meaning c.args.content.now) c.args.running.now) c.deref_mut-lock-items.result.now c.loop-lock.lock-items c.loop-lock.lock-index
    c.lock-item.result c.forget_absent.new.self c.loop-lock.invariant within c.forget_absent.ensures
