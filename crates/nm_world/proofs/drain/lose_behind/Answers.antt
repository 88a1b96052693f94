use Rattle.std.proofs.Common.{◌≤◌, ◌<◌, length, sym, ◌∙◌, arith}
use Rattle.nm_manager.specs.Manager.{wire_in}
use Rattle.nm_world.specs.Drain.{lose_link, lose_first}
use Rattle.nm_world.proofs.Loops.{found_here, not_here, nowhere}
use Rattle.nm_world.proofs.Skipping.{skipped}
use Rattle.nm_world.proofs.drain.lose_behind.Goals as goal

pub loop-place-init : goal.loop-place-init
loop-place-init g c =
    let links = wire_in c.args.manager.now.state c.args.change c.args.number in
    skipped (lose_link c.args.device.now links c.args.change c.args.number) (length links.links) c.args.passed c.requires.none

pub returns-in-Some : goal.returns-in-Some
returns-in-Some g c =
    let links = wire_in c.args.manager.now.state c.args.change c.args.number in
    let within : c.loop-place.place < length (wire_in c.args.manager.now.state c.args.change c.args.number).links = omega (arith, c.loop-place-test.true, c.links-place-end.ensures) in
    found_here (lose_link c.args.device.now links c.args.change c.args.number) c.loop-place.place (length links.links)
    (lose_first c.args.device.now links c.args.change c.args.number) c.loop-place.invariant c.in-Some.event within (sym c.lose_link.ensures ∙ c.in-Some.is)

pub loop-place-preserved : goal.loop-place-preserved
loop-place-preserved g c =
    let links = wire_in c.args.manager.now.state c.args.change c.args.number in
    let within : c.loop-place.place < length (wire_in c.args.manager.now.state c.args.change c.args.number).links = omega (arith, c.loop-place-test.true, c.links-place-end.ensures) in
    not_here (lose_link c.args.device.now links c.args.change c.args.number) c.loop-place.place (length links.links)
    (lose_first c.args.device.now links c.args.change c.args.number) c.loop-place.invariant within (sym c.lose_link.ensures ∙ c.in_default.is)

pub returns : goal.returns
returns g c =
    let links = wire_in c.args.manager.now.state c.args.change c.args.number in
    let over : length (wire_in c.args.manager.now.state c.args.change c.args.number).links ≤ c.loop-place.place = omega (arith, c.loop-place-test.false, c.links-place-end.ensures) in
    nowhere (lose_link c.args.device.now links c.args.change c.args.number) c.loop-place.place (length links.links)
    (lose_first c.args.device.now links c.args.change c.args.number) c.loop-place.invariant over
