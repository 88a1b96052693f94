use Rattle.nm_rest_laws.proofs.rest.Closes.{drain_closes}
use Rattle.nm_rest_laws.proofs.rest.every_drain_closes.Goals as goal

pub returns : goal.returns
returns g c = λ setting w. drain_closes (g.C.Content.meaning c.args.content.now) setting w
