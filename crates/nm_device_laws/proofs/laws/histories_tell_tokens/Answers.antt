use Rattle.nm_device_laws.proofs.Tells.{token_told, token_told_first, begun_tells, renewed_tells, confirmed_tells, cancelled_tells}
use Rattle.nm_device_laws.proofs.laws.histories_tell_tokens.Goals as goal

pub returns-clause-fresh : goal.returns-clause-fresh
returns-clause-fresh g c token r running e = token_told_first token r running e

pub returns-clause-stay : goal.returns-clause-stay
returns-clause-stay g c token r at leaves t = token_told (g.C.Content.meaning c.args.content.now) at.tables token r at.event at.h at.happens leaves t

pub returns-clause-begin : goal.returns-clause-begin
returns-clause-begin g c token r session timeout a d none t never = begun_tells (g.C.Content.meaning c.args.content.now) (g.met.C.Content.laws c.args.content.now) a.tables token r session a.h timeout (record { happens = a.happens; done = d }) none t never

pub returns-clause-renew : goal.returns-clause-renew
returns-clause-renew g c token r session timeout a d t = renewed_tells (g.C.Content.meaning c.args.content.now) (g.met.C.Content.laws c.args.content.now) a.tables token r session a.h timeout (record { happens = a.happens; done = d }) t

pub returns-clause-confirm : goal.returns-clause-confirm
returns-clause-confirm g c token r session timeout a d t = confirmed_tells (g.C.Content.meaning c.args.content.now) (g.met.C.Content.laws c.args.content.now) a.tables token r session a.h timeout (record { happens = a.happens; done = d }) t

pub returns-clause-cancel : goal.returns-clause-cancel
returns-clause-cancel g c token r session a d t = cancelled_tells (g.C.Content.meaning c.args.content.now) (g.met.C.Content.laws c.args.content.now) a.tables token r session a.h (record { happens = a.happens; done = d }) t
