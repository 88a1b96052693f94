use Rattle.std.proofs.Common.{sym, subst, ap}
use Rattle.nm_world.specs.World.{AreSound}
use Rattle.nm_report.proofs.Texts.{whole}
use Rattle.nm_report.proofs.change_text.write_world.Goals as goal

pub write_devices_running-requires : goal.write_devices_running-requires
write_devices_running-requires g c =
    subst (AreSound (g.C.Content.meaning c.content.result.now)) (sym c.devices-2.ensures.value)
    (subst (λ content. AreSound (g.C.Content.meaning content) c.args.world.now.state.devices) (sym c.content.ensures) c.devices-2.ensures.sound)

pub returns : goal.returns
returns g c =
    whole (g.C.Show.shown c.args.world.now.content) c.args.details c.args.world.now.setting c.args.world.now.state
    c.trail.result.now c.plans.result.now c.devices.result.now c.devices-2.result.now c.devices-3.result.now c.entries.result.now (g.C.Show.shown c.content.result.now) c.args.report.now
    c.new-text.result.items c.write_start.new.out.items c.write_change_sets.new.out.items c.write_devices_running.new.out.items c.write_report.new.out.items c.write_notices.new.out.items
    c.new-text.ensures.items c.trail.ensures c.plans.ensures.value c.devices.ensures.value c.entries.ensures (ap g.C.Show.shown c.content.ensures) c.devices-2.ensures.value c.requires c.devices-3.ensures.value
    c.in_ok-write_start.ensures c.in_ok-write_change_sets.ensures c.in_ok-write_devices_running.ensures c.in_ok-write_report.ensures c.in_ok-write_notices.ensures
