use Rattle.nm_permitted.proofs.Judged.{judged_is_run}
use Rattle.nm_permitted.proofs.Kept.{permitted_fewer}
use Rattle.nm_permitted.proofs.laws.judged_events_are_a_run.Goals as goal

pub returns-clause-run : goal.returns-clause-run
returns-clause-run g c setting = judged_is_run (g.C.Content.meaning c.args.content.now) setting

pub returns-clause-fewer : goal.returns-clause-fewer
returns-clause-fewer g c setting = permitted_fewer (g.C.Content.meaning c.args.content.now) setting
