use Rattle.std.proofs.Common.{◌≤◌, ◌<◌, length, sym, ◌∙◌, arith}
use Rattle.nm_manager.specs.Manager.{wire_in}
use Rattle.nm_world.specs.Report.{is_undelivered, has_undelivered}
use Rattle.nm_world.proofs.Loops.{passes_here, fails_here, none_passes}
use Rattle.nm_world.proofs.settled.has_undelivered.Goals as goal

pub returns-then-is_undelivered : goal.returns-then-is_undelivered
returns-then-is_undelivered g c =
    let links = wire_in c.args.manager.now.state c.args.change c.args.number in
    let within : c.loop-place.place < length (wire_in c.args.manager.now.state c.args.change c.args.number).links = omega (arith, c.loop-place-test.true, c.links-links.ensures) in
    passes_here (is_undelivered c.args.device.now links) c.loop-place.place (length links.links)
    (has_undelivered c.args.device.now links) c.loop-place.invariant within (sym c.is_undelivered.ensures ∙ c.if-is_undelivered.true)

pub loop-place-preserved : goal.loop-place-preserved
loop-place-preserved g c =
    let links = wire_in c.args.manager.now.state c.args.change c.args.number in
    let within : c.loop-place.place < length (wire_in c.args.manager.now.state c.args.change c.args.number).links = omega (arith, c.loop-place-test.true, c.links-links.ensures) in
    fails_here (is_undelivered c.args.device.now links) c.loop-place.place (length links.links)
    (has_undelivered c.args.device.now links) c.loop-place.invariant within (sym c.is_undelivered.ensures ∙ c.if-is_undelivered.false)

pub returns : goal.returns
returns g c =
    let links = wire_in c.args.manager.now.state c.args.change c.args.number in
    let over : length (wire_in c.args.manager.now.state c.args.change c.args.number).links ≤ c.loop-place.place = omega (arith, c.loop-place-test.false, c.links-links.ensures) in
    none_passes (is_undelivered c.args.device.now links) c.loop-place.place (length links.links)
    (has_undelivered c.args.device.now links) c.loop-place.invariant over
