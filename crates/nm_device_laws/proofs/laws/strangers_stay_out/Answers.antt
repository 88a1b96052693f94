use Rattle.nm_device_laws.proofs.Strangers.{strangers_kept_out}
use Rattle.nm_device_laws.proofs.laws.strangers_stay_out.Goals as goal

pub returns : goal.returns
returns g c s at out = strangers_kept_out (g.C.Content.meaning c.args.content.now) at.tables s at.event at.h at.happens out
