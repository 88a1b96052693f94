use Rattle.nm_device_laws.proofs.Tells.{pending_told, pending_told_first}
use Rattle.nm_device_laws.proofs.laws.histories_tell_pending.Goals as goal

pub returns-clause-fresh : goal.returns-clause-fresh
returns-clause-fresh g c token r running e = pending_told_first token r running e

pub returns-clause-stay : goal.returns-clause-stay
returns-clause-stay g c token r at t = pending_told (g.C.Content.meaning c.args.content.now) (g.met.C.Content.laws c.args.content.now) at.tables token r at.event at.h at.happens t
