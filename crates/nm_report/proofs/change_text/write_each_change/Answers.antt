use Rattle.std.proofs.Common.{◌+◌, ◌++◌, ◌<◌, length, refl, drop, ap, sym, ◌∙◌, arith, append-nil}
use Rattle.std.proofs.lemmas.List.{drop_all}
use Rattle.nm_proto.specs.Plan.{devices_in}
use Rattle.nm_report.specs.Text.{change_text, change_texts}
use Rattle.nm_report.proofs.Lines.{one_more}
use Rattle.nm_report.proofs.change_text.write_each_change.Goals as goal

pub returns : goal.returns
returns g c =
    let over = drop_all c.loop-place.place c.args.plans.now (omega (arith, c.loop-place-test.false)) in
    sym (append-nil c.loop-place.out.items)
    ∙ ap (λ plans. c.loop-place.out.items ++ change_texts c.args.devices.now c.args.entries.now (c.loop-place.place + 1) plans) (sym over) ∙ c.loop-place.invariant

pub loop-place-preserved : goal.loop-place-preserved
loop-place-preserved g c =
    let within : c.loop-place.place < length c.args.plans.now = omega (arith, c.loop-place-test.true) in
    one_more (change_texts c.args.devices.now c.args.entries.now) (λ k plan. change_text c.args.devices.now c.args.entries.now k (devices_in plan.edits)) (λ k plan rest. refl)
    c.args.plans.now c.loop-place.place c.index-plans-place.result c.loop-place.out.items c.write_change_text.new.out.items _ within
    (c.in_ok-write_change_text.ensures
    ∙ ap (λ k. c.loop-place.out.items ++ change_text c.args.devices.now c.args.entries.now k (devices_in c.index-plans-place.result.edits)) c.change_in.ensures
    ∙ ap (λ plan. c.loop-place.out.items ++ change_text c.args.devices.now c.args.entries.now (c.loop-place.place + 1) (devices_in plan.edits)) c.index-plans-place.is)
    c.loop-place.invariant
