use Rattle.std.proofs.Common.{◌≤◌, ◌<◌, length, arith}
use Rattle.nm_world.specs.Drain.{at_pair, at_devices}
use Rattle.nm_world.proofs.Loops.{nowhere}
use Rattle.nm_world.proofs.Searches.{from_start, found_at, not_at}
use Rattle.nm_world.proofs.search.at_devices.Goals as goal

pub loop-place-init : goal.loop-place-init
loop-place-init g c = from_start (at_pair c.args.devices.now c.args.manager.now.state c.args.rule c.args.change) (length c.args.devices.now)

pub returns-in-Some : goal.returns-in-Some
unfolding at_devices
returns-in-Some g c =
    let within : c.loop-place.place < length c.args.devices.now = omega (arith, c.loop-place-test.true) in
    found_at (at_pair c.args.devices.now c.args.manager.now.state c.args.rule c.args.change) c.loop-place.place (length c.args.devices.now) c.device_in.result
    (at_devices c.args.devices.now c.args.manager.now.state c.args.rule c.args.change) c.at_pair.result c.device_in.ensures c.at_pair.ensures c.loop-place.invariant within c.in-Some.event c.in-Some.is

pub loop-place-preserved : goal.loop-place-preserved
unfolding at_devices
loop-place-preserved g c =
    let within : c.loop-place.place < length c.args.devices.now = omega (arith, c.loop-place-test.true) in
    not_at (at_pair c.args.devices.now c.args.manager.now.state c.args.rule c.args.change) c.loop-place.place (length c.args.devices.now) c.device_in.result
    (at_devices c.args.devices.now c.args.manager.now.state c.args.rule c.args.change) c.at_pair.result c.device_in.ensures c.at_pair.ensures c.loop-place.invariant within c.in_default.is

pub returns : goal.returns
unfolding at_devices
returns g c =
    let over : length c.args.devices.now ≤ c.loop-place.place = omega (arith, c.loop-place-test.false) in
    nowhere (at_pair c.args.devices.now c.args.manager.now.state c.args.rule c.args.change) c.loop-place.place (length c.args.devices.now)
    (at_devices c.args.devices.now c.args.manager.now.state c.args.rule c.args.change) c.loop-place.invariant over
