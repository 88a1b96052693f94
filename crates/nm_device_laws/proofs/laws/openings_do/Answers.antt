use Rattle.std.proofs.Common.{subst}
use Rattle.nm_history.specs.declared.event.DeviceEvent.{DeviceEvent}
use Rattle.nm_device_laws.specs.Moment.{Happens}
use Rattle.nm_device_laws.proofs.Owns.{opens}
use Rattle.nm_device_laws.proofs.laws.openings_do.Goals as goal

pub returns : goal.returns
returns g c s at user id entered n replies =
    let m = (g.C.Content.meaning c.args.content.now) in
    opens m at.tables s n user id at.h (subst (λ (event : DeviceEvent). Happens m at.tables s event at.h) entered at.happens) replies
