use Rattle.nm_outcome_laws.proofs.aborts.Runs.{drained_is_over}
use Rattle.nm_outcome_laws.proofs.aborts.drained_aborts_are_over.Goals as goal

pub returns : goal.returns
returns g c = λ setting running events steps.
    drained_is_over (g.C.Content.meaning c.args.content.now) (g.met.C.Content.laws c.args.content.now) setting running events steps
