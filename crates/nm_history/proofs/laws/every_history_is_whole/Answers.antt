use Rattle.nm_history.proofs.Histories.{every_history}
use Rattle.nm_history.proofs.laws.every_history_is_whole.Goals as goal

pub returns : goal.returns
returns g c tables running events valid =
    every_history (g.C.Content.meaning c.args.content.now) (g.met.C.Content.laws c.args.content.now) tables running events valid
