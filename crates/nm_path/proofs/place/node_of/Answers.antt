use Rattle.nm_path.proofs.Nodes.{led}
use Rattle.nm_path.proofs.place.node_of.Goals as goal

pub returns-clause-led : goal.returns-clause-led
returns-clause-led c = led c.args.schema.now c.args.path.now c.last_of.result c.last_of.ensures
