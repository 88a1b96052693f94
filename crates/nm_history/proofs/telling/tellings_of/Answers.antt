use Rattle.std.proofs.Common.{◌∷◌, [], ◌++◌, ap, ◌∙◌}
use Rattle.nm_history.proofs.Tellings.{one_copied, all_copied}
use Rattle.nm_history.proofs.telling.tellings_of.Goals as goal

pub loop-device-preserved : goal.loop-device-preserved
loop-device-preserved g c =
    one_copied c.args.devices.now c.loop-device.device-index c.device-item.result c.loop-device.tellings.items c.push.new.self.items c.args.devices.now c.loop-device-test.true c.device-item.is
    (c.in_ok-push.ensures.items ∙ ap (λ telling. c.loop-device.tellings.items ++ telling ∷ []) c.in_ok-new.ensures) c.loop-device.invariant

pub returns : goal.returns
returns g c = all_copied c.args.devices.now c.loop-device.device-index c.loop-device.tellings.items c.args.devices.now c.loop-device-test.false c.loop-device.invariant
