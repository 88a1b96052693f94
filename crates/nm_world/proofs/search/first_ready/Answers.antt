use Rattle.std.proofs.Common.{◌≤◌, ◌<◌, ◌≡◌, length, ap, arith}
use Rattle.nm_world.specs.Drain.{ready_at, first_ready}
use Rattle.nm_world.proofs.Loops.{nowhere}
use Rattle.nm_world.proofs.Searches.{found_at, not_at}
use Rattle.nm_world.proofs.search.first_ready.Goals as goal

pub returns-in-Some-clause-value : goal.returns-in-Some-clause-value
returns-in-Some-clause-value c =
    let size : length c.plans-place-end.result.now ≡ length c.args.manager.now.plans = ap length c.plans-place-end.ensures.value in
    let within : c.loop-place.place < length c.args.manager.now.plans = omega (arith, size, c.loop-place-test.true) in
    found_at (ready_at c.args.manager.now.state.entries) c.loop-place.place (length c.args.manager.now.plans) c.change_in.result
    (first_ready (length c.args.manager.now.plans) c.args.manager.now.state.entries) c.ready_at.result c.change_in.ensures c.ready_at.ensures.value c.loop-place.invariant within c.in-Some.change c.in-Some.is

pub returns-in-Some-clause-given : goal.returns-in-Some-clause-given
returns-in-Some-clause-given c =
    let size : length c.plans-place-end.result.now ≡ length c.args.manager.now.plans = ap length c.plans-place-end.ensures.value in
    omega (arith, size, c.in-Some.ensures, c.change_in.ensures, c.loop-place-test.true)

pub loop-place-preserved : goal.loop-place-preserved
loop-place-preserved c =
    let size : length c.plans-place-end.result.now ≡ length c.args.manager.now.plans = ap length c.plans-place-end.ensures.value in
    let within : c.loop-place.place < length c.args.manager.now.plans = omega (arith, size, c.loop-place-test.true) in
    not_at (ready_at c.args.manager.now.state.entries) c.loop-place.place (length c.args.manager.now.plans) c.change_in.result
    (first_ready (length c.args.manager.now.plans) c.args.manager.now.state.entries) c.ready_at.result c.change_in.ensures c.ready_at.ensures.value c.loop-place.invariant within c.in_default.is

pub returns-clause-value : goal.returns-clause-value
returns-clause-value c =
    let size : length c.plans-place-end.result.now ≡ length c.args.manager.now.plans = ap length c.plans-place-end.ensures.value in
    let over : length c.args.manager.now.plans ≤ c.loop-place.place = omega (arith, size, c.loop-place-test.false) in
    nowhere (ready_at c.args.manager.now.state.entries) c.loop-place.place (length c.args.manager.now.plans)
    (first_ready (length c.args.manager.now.plans) c.args.manager.now.state.entries) c.loop-place.invariant over
