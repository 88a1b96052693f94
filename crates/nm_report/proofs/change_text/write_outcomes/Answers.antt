use Rattle.std.proofs.Common.{◌+◌, ◌++◌, ◌<◌, length, refl, sym, ap, ◌∙◌, arith, append-nil}
use Rattle.std.proofs.lemmas.List.{drop_all}
use Rattle.nm_report.specs.Text.{outcome_text, outcome_texts}
use Rattle.nm_report.proofs.Lines.{one_more}
use Rattle.nm_report.proofs.change_text.write_outcomes.Goals as goal

pub returns : goal.returns
returns g c =
    let over = drop_all c.loop-place.place c.args.devices.now (omega (arith, c.loop-place-test.false)) in
    sym (append-nil c.loop-place.out.items)
    ∙ ap (λ devices. c.loop-place.out.items ++ outcome_texts c.args.change c.args.members.0 (c.loop-place.place + 1) devices) (sym over)
    ∙ c.loop-place.invariant

pub loop-place-preserved : goal.loop-place-preserved
loop-place-preserved g c =
    let within : c.loop-place.place < length c.args.devices.now = omega (arith, c.loop-place-test.true) in
    one_more (outcome_texts c.args.change c.args.members.0) (λ k r. outcome_text c.args.change c.args.members.0 k r.history) (λ k r rest. refl)
    c.args.devices.now c.loop-place.place c.index-devices-place.result c.loop-place.out.items c.write_if_member.new.out.items _ within
    (c.in_ok-write_if_member.ensures ∙ ap (λ r. c.loop-place.out.items ++ outcome_text c.args.change c.args.members.0 (c.loop-place.place + 1) r.history) c.index-devices-place.is)
    c.loop-place.invariant
