use Rattle.std.proofs.Common.{subst}
use Rattle.nm_history.specs.declared.event.DeviceEvent.{DeviceEvent}
use Rattle.nm_device_laws.specs.Moment.{Happens}
use Rattle.nm_device_laws.proofs.Owns.{kills, loses, restart_closes}
use Rattle.nm_device_laws.proofs.laws.endings_do.Goals as goal

pub returns-clause-kill : goal.returns-clause-kill
returns-clause-kill g c s session other a d = kills (g.C.Content.meaning c.args.content.now) a.tables s session other a.h (record { happens = a.happens; done = d })

pub returns-clause-loss : goal.returns-clause-loss
returns-clause-loss g c s at session lost =
    let m = (g.C.Content.meaning c.args.content.now) in
    loses m at.tables s session at.h (subst (λ (event : DeviceEvent). Happens m at.tables s event at.h) lost at.happens)

pub returns-clause-restart : goal.returns-clause-restart
returns-clause-restart g c s at restarted t =
    let m = (g.C.Content.meaning c.args.content.now) in
    restart_closes m at.tables s at.h (subst (λ (event : DeviceEvent). Happens m at.tables s event at.h) restarted at.happens) t
