use Rattle.std.proofs.Common.{◌<◌, ◌+◌, ◌++◌, ◌∙◌, length, refl, ap, arith}
use Rattle.nm_report.specs.Notices.{device_notices, notice_lines}
use Rattle.nm_report.proofs.Lines.{one_more}
use Rattle.nm_report.proofs.notice_text.write_notice_lines.Goals as goal

pub loop-place-preserved : goal.loop-place-preserved
loop-place-preserved g c =
    let within : c.loop-place.place < length c.args.devices.now = omega (arith, c.loop-place-test.true) in
    one_more notice_lines (λ k r. device_notices k r.history) (λ k r rest. refl)
    c.args.devices.now c.loop-place.place c.index-devices-place.result c.loop-place.out.items c.write_device_notices.new.out.items _ within
    (c.in_ok-write_device_notices.ensures
    ∙ ap (λ history. c.loop-place.out.items ++ device_notices (c.loop-place.place + 1) history) (c.history.ensures ∙ ap (λ r. r.history) c.index-devices-place.is))
    c.loop-place.invariant
