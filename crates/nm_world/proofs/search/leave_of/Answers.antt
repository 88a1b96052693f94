use Rattle.std.proofs.Common.{◌≤◌, ◌<◌, length, arith}
use Rattle.nm_world.specs.Drain.{leave_on, leave_of}
use Rattle.nm_world.proofs.Loops.{nowhere}
use Rattle.nm_world.proofs.Searches.{from_start, found_at, not_at}
use Rattle.nm_world.proofs.search.leave_of.Goals as goal

pub loop-place-init : goal.loop-place-init
loop-place-init g c = from_start (leave_on c.args.devices.now c.args.operators.now c.args.number) (length c.args.devices.now)

pub returns-in-Some : goal.returns-in-Some
unfolding leave_of
returns-in-Some g c =
    let within : c.loop-place.place < length c.args.devices.now = omega (arith, c.loop-place-test.true) in
    found_at (leave_on c.args.devices.now c.args.operators.now c.args.number) c.loop-place.place (length c.args.devices.now) c.device_in.result
    (leave_of c.args.devices.now c.args.operators.now c.args.number) c.leave_on.result c.device_in.ensures c.leave_on.ensures c.loop-place.invariant within c.in-Some.event c.in-Some.is

pub loop-place-preserved : goal.loop-place-preserved
unfolding leave_of
loop-place-preserved g c =
    let within : c.loop-place.place < length c.args.devices.now = omega (arith, c.loop-place-test.true) in
    not_at (leave_on c.args.devices.now c.args.operators.now c.args.number) c.loop-place.place (length c.args.devices.now) c.device_in.result
    (leave_of c.args.devices.now c.args.operators.now c.args.number) c.leave_on.result c.device_in.ensures c.leave_on.ensures c.loop-place.invariant within c.in_default.is

pub returns : goal.returns
unfolding leave_of
returns g c =
    let over : length c.args.devices.now ≤ c.loop-place.place = omega (arith, c.loop-place-test.false) in
    nowhere (leave_on c.args.devices.now c.args.operators.now c.args.number) c.loop-place.place (length c.args.devices.now)
    (leave_of c.args.devices.now c.args.operators.now c.args.number) c.loop-place.invariant over
