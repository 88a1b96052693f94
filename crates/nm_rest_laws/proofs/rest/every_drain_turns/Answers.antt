use Rattle.nm_rest_laws.proofs.rest.Coming.{run_comes}
use Rattle.nm_rest_laws.proofs.rest.every_drain_turns.Goals as goal

pub returns : goal.returns
returns g c = λ setting running events proper. run_comes (g.C.Content.meaning c.args.content.now) (g.met.C.Content.laws c.args.content.now) setting running events proper
