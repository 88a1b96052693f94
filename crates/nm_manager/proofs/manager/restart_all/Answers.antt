use Rattle.std.proofs.Common.{◌<◌, ap, ◌∙◌, length, arith}
use Rattle.nm_manager.specs.Slot.{restarted_slot}
use Rattle.nm_wire.proofs.Changed.{changed_at}
use Rattle.nm_manager.proofs.manager.restart_all.Goals as goal

pub loop-place-preserved : goal.loop-place-preserved
loop-place-preserved c =
    let within : c.loop-place.place < length c.args.slots.now.items = omega (arith, c.len-place-end.ensures) in
    changed_at (restarted_slot c.args.device) c.args.slots.now.items c.loop-place.slots.items c.loop-place.place c.index_mut.result.now c.restart.new.self
    c.loop-place.invariant within (c.restart.ensures ∙ ap (restarted_slot c.args.device) c.index_mut.ensures.value)
