use Rattle.std.proofs.Common.{◌+◌, ◌++◌, ◌<◌, length, refl, sym, ap, ◌∙◌, arith, append-nil}
use Rattle.std.proofs.lemmas.List.{drop_all}
use Rattle.nm_picture_shapes.specs.Marks.{device_marks, lane_marks}
use Rattle.nm_picture_shapes.proofs.Devices.{one_more}
use Rattle.nm_picture_shapes.proofs.marks.lane_marks_of.Goals as goal

pub returns : goal.returns
returns g c =
    let over = drop_all c.loop-place.place c.args.devices.now (omega (arith, c.loop-place-test.false)) in
    sym (append-nil c.loop-place.all.items)
    ∙ ap (λ devices. c.loop-place.all.items ++ lane_marks c.args.trail.now c.args.rows.now (c.loop-place.place + 1) devices) (sym over)
    ∙ c.loop-place.invariant

pub loop-place-preserved : goal.loop-place-preserved
loop-place-preserved g c =
    let within : c.loop-place.place < length c.args.devices.now = omega (arith, c.loop-place-test.true) in
    one_more (lane_marks c.args.trail.now c.args.rows.now) (λ k r. device_marks k c.args.trail.now c.args.rows.now r.history) (λ k r rest. refl)
    c.args.devices.now c.loop-place.place c.index-devices-place.result c.loop-place.all.items c.push_device.new.all.items _ within
    (c.in_ok-push_device.ensures
    ∙ ap (λ k. c.loop-place.all.items ++ device_marks k c.args.trail.now c.args.rows.now c.history.result.now) c.device_in.ensures
    ∙ ap (λ h. c.loop-place.all.items ++ device_marks (c.loop-place.place + 1) c.args.trail.now c.args.rows.now h) c.history.ensures
    ∙ ap (λ r. c.loop-place.all.items ++ device_marks (c.loop-place.place + 1) c.args.trail.now c.args.rows.now r.history) c.index-devices-place.is)
    c.loop-place.invariant
