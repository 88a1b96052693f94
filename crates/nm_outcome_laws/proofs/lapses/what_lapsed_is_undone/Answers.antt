use Rattle.nm_outcome_laws.proofs.lapses.Runs.{run_lapses}
use Rattle.nm_outcome_laws.proofs.lapses.what_lapsed_is_undone.Goals as goal

pub returns : goal.returns
returns g c = λ setting running events.
    run_lapses (g.C.Content.meaning c.args.content.now) (g.met.C.Content.laws c.args.content.now) setting running events
