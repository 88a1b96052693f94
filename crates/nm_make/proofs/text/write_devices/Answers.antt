use Rattle.std.proofs.Common.{◌<◌, ◌≤◌, arith}
use Rattle.nm_make.specs.Made.{device_text}
use Rattle.nm_make.proofs.Numbered.{one_more, all_done}
use Rattle.nm_make.proofs.text.write_devices.Goals as goal

pub loop-device-preserved : goal.loop-device-preserved
loop-device-preserved c =
    let within : c.loop-device.device < 33 = omega (arith, c.loop-device-test.true) in
    one_more (device_text) c.loop-device.device 33 c.loop-device.out.items c.write_device.new.out.items _ within c.in_ok-write_device.ensures c.loop-device.invariant

pub returns : goal.returns
returns c =
    let over : 33 ≤ c.loop-device.device = omega (arith, c.loop-device-test.false) in
    all_done (device_text) c.loop-device.device 33 c.loop-device.out.items _ over c.loop-device.invariant
