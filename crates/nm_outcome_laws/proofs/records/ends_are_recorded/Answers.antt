use Rattle.nm_outcome_laws.proofs.records.Whole.{run_ends_so}
use Rattle.nm_outcome_laws.proofs.records.ends_are_recorded.Goals as goal

pub returns : goal.returns
returns g c = λ setting running events.
    run_ends_so (g.C.Content.meaning c.args.content.now) (g.met.C.Content.laws c.args.content.now) setting running events
