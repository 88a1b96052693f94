use Rattle.nm_rest_laws.proofs.rest.Running.{run_orderly}
use Rattle.nm_rest_laws.proofs.rest.every_run_is_orderly.Goals as goal

pub returns : goal.returns
returns g c = λ setting running events proper. run_orderly (g.C.Content.meaning c.args.content.now) (g.met.C.Content.laws c.args.content.now) setting running events proper
