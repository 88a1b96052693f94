use Rattle.nm_rest_laws.proofs.rest.Limit.{run_ends}
use Rattle.nm_rest_laws.proofs.rest.no_drain_meets_the_limit.Goals as goal

pub returns : goal.returns
returns g c = λ setting running events proper devices few. run_ends (g.C.Content.meaning c.args.content.now) (g.met.C.Content.laws c.args.content.now) setting running events proper devices few
