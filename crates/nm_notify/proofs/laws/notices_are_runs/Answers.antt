use Rattle.nm_notify.proofs.Going.{are_runs}
use Rattle.nm_notify.proofs.laws.notices_are_runs.Goals as goal

pub returns : goal.returns
returns g c tables first history legal =
    are_runs (g.C.Content.meaning c.args.content.now) (g.met.C.Content.laws c.args.content.now) tables first history legal
