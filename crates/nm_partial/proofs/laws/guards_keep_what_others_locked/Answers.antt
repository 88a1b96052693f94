use Rattle.nm_partial.proofs.Guards.{guards_keep}
use Rattle.nm_partial.proofs.laws.guards_keep_what_others_locked.Goals as goal

pub returns : goal.returns
returns g c partials session old new = guards_keep (g.C.Content.meaning c.args.content.now) (g.met.C.Content.laws c.args.content.now) partials session old new
