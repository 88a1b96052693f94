use Rattle.std.proofs.Common.{◌+◌, ◌-◌, ◌++◌, List, sym, ap, ◌∙◌}
use Rattle.nm_explore_mishaps.specs.declared.mishap.Mishap.{Mishap}
use Rattle.nm_explore_mishaps.specs.Mishaps.{device_mishaps, each_device}
use Rattle.nm_explore_mishaps.proofs.Left.{devices_left, listed}
use Rattle.nm_explore_mishaps.proofs.list.push_devices.Goals as goal

pub loop-place-preserved : goal.loop-place-preserved
loop-place-preserved c =
    let plans = c.args.plans.now in
    let so_far = c.loop-place.all in
    let place = c.loop-place.place in
    listed so_far (device_mishaps plans (place + 1)) (each_device plans (place + 1 + 1) (c.args.devices - (place + 1))) c.push_device.new.all _
    (c.in_ok-push_device.ensures ∙ ap (λ device. so_far ++ device_mishaps plans device) c.device_in.ensures)
    (ap (λ (rest : List Mishap). so_far ++ rest) (sym (devices_left plans place c.args.devices c.loop-place-test.true)) ∙ c.loop-place.invariant)
