use Rattle.std.proofs.Common.{◌≤◌, ◌<◌, ◌++◌, length, ap, ◌∙◌, arith}
use Rattle.nm_world.specs.Report.{each_from, differs_at, pair_if}
use Rattle.nm_world.proofs.Searches.{all_of, one_given, all_given}
use Rattle.nm_world.proofs.report.push_differing.Goals as goal

pub loop-place-init : goal.loop-place-init
loop-place-init g c = all_of (differs_at c.args.devices.now c.args.committed c.args.change) c.args.pairs.now (length c.args.devices.now)

pub loop-place-preserved : goal.loop-place-preserved
unfolding differs_at
loop-place-preserved g c =
    let within : c.loop-place.place < length c.args.devices.now = omega (arith, c.loop-place-test.true) in
    one_given (differs_at c.args.devices.now c.args.committed c.args.change) c.loop-place.pairs c.push_if.new.pairs
    (c.args.pairs.now ++ each_from (differs_at c.args.devices.now c.args.committed c.args.change) 1 (length c.args.devices.now)) c.loop-place.place (length c.args.devices.now) c.device_in-device.result c.device_in-device.ensures
    (c.in_ok-push_if.ensures ∙ ap (λ test. c.loop-place.pairs ++ pair_if test c.args.change c.device_in-device.result) c.differs-test.ensures)
    c.loop-place.invariant within

pub returns : goal.returns
returns g c =
    let over : length c.args.devices.now ≤ c.loop-place.place = omega (arith, c.loop-place-test.false) in
    all_given (differs_at c.args.devices.now c.args.committed c.args.change) c.loop-place.pairs
    (c.args.pairs.now ++ each_from (differs_at c.args.devices.now c.args.committed c.args.change) 1 (length c.args.devices.now)) c.loop-place.place (length c.args.devices.now) c.loop-place.invariant over
