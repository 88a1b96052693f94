use Rattle.nm_rest_laws.proofs.rest.Rested.{run_rests}
use Rattle.nm_rest_laws.proofs.rest.every_drain_ends.Goals as goal

pub returns : goal.returns
returns g c = λ setting running events proper devices. run_rests (g.C.Content.meaning c.args.content.now) (g.met.C.Content.laws c.args.content.now) setting running events proper devices
