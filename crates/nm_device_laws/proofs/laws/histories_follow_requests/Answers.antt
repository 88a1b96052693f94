use Rattle.nm_device_laws.proofs.Outcomes.{begun_told, renewed_told, confirmed_told, cancelled_told, done_counted}
use Rattle.nm_device_laws.proofs.laws.histories_follow_requests.Goals as goal

pub returns-clause-begin : goal.returns-clause-begin
returns-clause-begin g c token r session timeout a d none t never = begun_told (g.C.Content.meaning c.args.content.now) a.tables r session a.h token timeout (record { happens = a.happens; done = d }) none t never

pub returns-clause-renew : goal.returns-clause-renew
returns-clause-renew g c token other r session timeout a d = renewed_told (g.C.Content.meaning c.args.content.now) a.tables r session a.h token other timeout (record { happens = a.happens; done = d })

pub returns-clause-confirm : goal.returns-clause-confirm
returns-clause-confirm g c token r session timeout a d waits = confirmed_told (g.C.Content.meaning c.args.content.now) a.tables r session a.h token timeout (record { happens = a.happens; done = d }) waits

pub returns-clause-cancel : goal.returns-clause-cancel
returns-clause-cancel g c token r session a d waits = cancelled_told (g.C.Content.meaning c.args.content.now) a.tables r session a.h token (record { happens = a.happens; done = d }) waits

pub returns-clause-count : goal.returns-clause-count
returns-clause-count g c token r session request a d = done_counted (g.C.Content.meaning c.args.content.now) a.tables r session a.h token request (record { happens = a.happens; done = d })
