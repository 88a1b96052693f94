use Rattle.nm_outcome_laws.proofs.lapses.Runs.{drained_lapses}
use Rattle.nm_outcome_laws.proofs.lapses.what_lapsed_is_undone_when_drained.Goals as goal

pub returns : goal.returns
returns g c = λ setting running events steps.
    drained_lapses (g.C.Content.meaning c.args.content.now) (g.met.C.Content.laws c.args.content.now) setting running events steps
