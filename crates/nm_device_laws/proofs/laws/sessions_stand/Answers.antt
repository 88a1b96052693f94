use Rattle.nm_device_laws.proofs.Keeping.{session_kept}
use Rattle.nm_device_laws.proofs.laws.sessions_stand.Goals as goal

pub returns : goal.returns
returns g c s at n t others = session_kept (g.C.Content.meaning c.args.content.now) at.tables s n t at.event at.h at.happens others
