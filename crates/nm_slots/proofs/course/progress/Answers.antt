use Rattle.std.proofs.Common.{◌<◌, length, take, sym, ap, ◌∙◌}
use Rattle.nm_slots.specs.Course.{then_goes, reached}
use Rattle.nm_slots.proofs.Steps.{next_entry}
use Rattle.nm_slots.proofs.course.progress.Goals as goal

pub loop-place-preserved : goal.loop-place-preserved
loop-place-preserved c =
    let entries = c.args.entries.now in
    let place = c.loop-place.place in
    let before = take place entries in
    let within : place < length entries = c.loop-place-test.true in
    c.then_goes-at.ensures
    ∙ ap (λ at. then_goes c.args.plan.now c.args.change c.args.device before at c.index-entries-place.result) c.loop-place.invariant
    ∙ ap (then_goes c.args.plan.now c.args.change c.args.device before (reached c.args.plan.now c.args.change c.args.device before)) c.index-entries-place.is
    ∙ sym (next_entry c.args.plan.now c.args.change c.args.device entries place c.index-entries-place.result within)
