use Rattle.nm_outcome_laws.proofs.records.Aborts.{run_records}
use Rattle.nm_outcome_laws.proofs.records.aborts_are_recorded.Goals as goal

pub returns : goal.returns
returns g c = λ setting running events.
    run_records (g.C.Content.meaning c.args.content.now) (g.met.C.Content.laws c.args.content.now) setting running events
