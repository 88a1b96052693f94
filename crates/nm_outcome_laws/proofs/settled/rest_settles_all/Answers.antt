use Rattle.nm_outcome_laws.proofs.settled.Rest.{drained_settles}
use Rattle.nm_outcome_laws.proofs.settled.rest_settles_all.Goals as goal

pub returns : goal.returns
returns g c = λ setting running events steps.
    drained_settles (g.C.Content.meaning c.args.content.now) (g.met.C.Content.laws c.args.content.now) setting running events steps
