use Rattle.nm_device_laws.proofs.Owns.{commits, begins, renews, confirms, cancels}
use Rattle.nm_device_laws.proofs.laws.commits_do.Goals as goal

pub returns-clause-commit : goal.returns-clause-commit
returns-clause-commit g c s session confirmed timeout persist persist_id a d = commits (g.C.Content.meaning c.args.content.now) (g.met.C.Content.laws c.args.content.now) a.tables s session confirmed timeout persist persist_id a.h (record { happens = a.happens; done = d })

pub returns-clause-begin : goal.returns-clause-begin
returns-clause-begin g c s session timeout token a d none = begins (g.C.Content.meaning c.args.content.now) (g.met.C.Content.laws c.args.content.now) a.tables s session timeout token a.h none (record { happens = a.happens; done = d })

pub returns-clause-renew : goal.returns-clause-renew
returns-clause-renew g c s session timeout token a d = renews (g.C.Content.meaning c.args.content.now) (g.met.C.Content.laws c.args.content.now) a.tables s session timeout token a.h (record { happens = a.happens; done = d })

pub returns-clause-confirm : goal.returns-clause-confirm
returns-clause-confirm g c s session timeout token a d = confirms (g.C.Content.meaning c.args.content.now) (g.met.C.Content.laws c.args.content.now) a.tables s session timeout token a.h (record { happens = a.happens; done = d })

pub returns-clause-cancel : goal.returns-clause-cancel
returns-clause-cancel g c s session token a d = cancels (g.C.Content.meaning c.args.content.now) (g.met.C.Content.laws c.args.content.now) a.tables s session token a.h (record { happens = a.happens; done = d })
