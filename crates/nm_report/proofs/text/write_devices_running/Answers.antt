use Rattle.std.proofs.Common.{◌<◌, ◌+◌, ◌++◌, ◌∙◌, length, refl, ap, arith}
use Rattle.nm_report.specs.Text.{running_line, running_lines, running_of}
use Rattle.nm_report.proofs.Lines.{one_more}
use Rattle.nm_report.proofs.text.write_devices_running.Goals as goal

pub loop-place-preserved : goal.loop-place-preserved
loop-place-preserved g c =
    let shown = g.C.Show.shown c.args.content.now in
    let within : c.loop-place.place < length c.args.devices.now = omega (arith, c.loop-place-test.true) in
    one_more (λ k devices. running_lines shown k (running_of devices)) (λ k r. running_line k (shown r.device.stores.running)) (λ k r rest. refl)
    c.args.devices.now c.loop-place.place c.index-devices-place.result c.loop-place.out.items c.write_running.new.out.items _ within
    (c.in_ok-write_running.ensures
    ∙ ap (λ config. c.loop-place.out.items ++ running_line (c.loop-place.place + 1) (shown config)) (c.running.ensures ∙ ap (λ d. d.stores.running) (c.device.ensures ∙ ap (λ r. r.device) c.index-devices-place.is)))
    c.loop-place.invariant
