use Rattle.std.proofs.Common.{◌≤◌, ◌<◌, ◌≡◌, length, ap, arith}
use Rattle.nm_world.specs.declared.drain.Rule.TheVariants as rules
use Rattle.nm_world.specs.Drain.{at_devices, loses_links}
use Rattle.nm_world.proofs.Loops.{nowhere}
use Rattle.nm_world.proofs.Searches.{from_start, found_at, not_at}
use Rattle.nm_world.proofs.search.loses_links.Goals as goal

pub loop-place-init : goal.loop-place-init
loop-place-init g c = from_start (at_devices c.args.devices.now c.args.manager.now.state rules.Lose) (length c.args.manager.now.plans)

pub returns-in-Some : goal.returns-in-Some
returns-in-Some g c =
    let size : length c.plans-place-end.result.now ≡ length c.args.manager.now.plans = ap length c.plans-place-end.ensures.value in
    let within : c.loop-place.place < length c.args.manager.now.plans = omega (arith, size, c.loop-place-test.true) in
    found_at (at_devices c.args.devices.now c.args.manager.now.state rules.Lose) c.loop-place.place (length c.args.manager.now.plans) c.change_in.result
    (loses_links c.args.devices.now c.args.manager.now.state (length c.args.manager.now.plans)) c.loses_of.result c.change_in.ensures c.loses_of.ensures c.loop-place.invariant within
    c.in-Some.event c.in-Some.is

pub loop-place-preserved : goal.loop-place-preserved
loop-place-preserved g c =
    let size : length c.plans-place-end.result.now ≡ length c.args.manager.now.plans = ap length c.plans-place-end.ensures.value in
    let within : c.loop-place.place < length c.args.manager.now.plans = omega (arith, size, c.loop-place-test.true) in
    not_at (at_devices c.args.devices.now c.args.manager.now.state rules.Lose) c.loop-place.place (length c.args.manager.now.plans) c.change_in.result
    (loses_links c.args.devices.now c.args.manager.now.state (length c.args.manager.now.plans)) c.loses_of.result c.change_in.ensures c.loses_of.ensures c.loop-place.invariant within
    c.in_default.is

pub returns : goal.returns
returns g c =
    let size : length c.plans-place-end.result.now ≡ length c.args.manager.now.plans = ap length c.plans-place-end.ensures.value in
    let over : length c.args.manager.now.plans ≤ c.loop-place.place = omega (arith, size, c.loop-place-test.false) in
    nowhere (at_devices c.args.devices.now c.args.manager.now.state rules.Lose) c.loop-place.place (length c.args.manager.now.plans)
    (loses_links c.args.devices.now c.args.manager.now.state (length c.args.manager.now.plans)) c.loop-place.invariant over
