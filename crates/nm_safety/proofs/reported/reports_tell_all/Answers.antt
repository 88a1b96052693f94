use Rattle.nm_safety.proofs.Tells.{safe_tells}
use Rattle.nm_safety.proofs.reported.reports_tell_all.Goals as goal

pub returns : goal.returns
returns g c = λ setting running events w safe. safe_tells (g.C.Content.meaning c.args.content.now) setting running events w safe
