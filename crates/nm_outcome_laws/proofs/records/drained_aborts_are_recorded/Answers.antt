use Rattle.nm_outcome_laws.proofs.records.Aborts.{drained_records}
use Rattle.nm_outcome_laws.proofs.records.drained_aborts_are_recorded.Goals as goal

pub returns : goal.returns
returns g c = λ setting running events steps.
    drained_records (g.C.Content.meaning c.args.content.now) (g.met.C.Content.laws c.args.content.now) setting running events steps
