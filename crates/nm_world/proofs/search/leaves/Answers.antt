use Rattle.std.proofs.Common.{◌≤◌, ◌<◌, ◌+◌, length, refl, arith}
use Rattle.nm_world.specs.Drain.{leave_of, leaves}
use Rattle.nm_world.proofs.Loops.{nowhere}
use Rattle.nm_world.proofs.Searches.{from_start, found_at, not_at}
use Rattle.nm_world.proofs.search.leaves.Goals as goal

pub loop-place-init : goal.loop-place-init
loop-place-init g c = from_start (leave_of c.args.devices.now c.args.operators.now) (length c.args.operators.now)

pub returns-in-Some : goal.returns-in-Some
returns-in-Some g c =
    let within : c.loop-place.place < length c.args.operators.now = omega (arith, c.loop-place-test.true) in
    found_at (leave_of c.args.devices.now c.args.operators.now) c.loop-place.place (length c.args.operators.now) (c.loop-place.place + 1)
    (leaves c.args.devices.now c.args.operators.now) c.leave_of.result refl c.leave_of.ensures c.loop-place.invariant within c.in-Some.event c.in-Some.is

pub loop-place-preserved : goal.loop-place-preserved
loop-place-preserved g c =
    let within : c.loop-place.place < length c.args.operators.now = omega (arith, c.loop-place-test.true) in
    not_at (leave_of c.args.devices.now c.args.operators.now) c.loop-place.place (length c.args.operators.now) (c.loop-place.place + 1)
    (leaves c.args.devices.now c.args.operators.now) c.leave_of.result refl c.leave_of.ensures c.loop-place.invariant within c.in_default.is

pub returns : goal.returns
returns g c =
    let over : length c.args.operators.now ≤ c.loop-place.place = omega (arith, c.loop-place-test.false) in
    nowhere (leave_of c.args.devices.now c.args.operators.now) c.loop-place.place (length c.args.operators.now)
    (leaves c.args.devices.now c.args.operators.now) c.loop-place.invariant over
