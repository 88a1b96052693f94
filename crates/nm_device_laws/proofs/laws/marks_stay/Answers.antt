use Rattle.nm_device_laws.proofs.Marked.{marks_kept}
use Rattle.nm_device_laws.proofs.laws.marks_stay.Goals as goal

pub returns : goal.returns
returns g c s at others un = marks_kept (g.C.Content.meaning c.args.content.now) (g.met.C.Content.laws c.args.content.now) at.tables s un at.event at.h at.happens others
