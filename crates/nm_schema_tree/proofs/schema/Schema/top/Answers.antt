use Rattle.nm_schema_tree.proofs.Finding.{top_module}
use Rattle.nm_schema_tree.proofs.schema.Schema.top.Goals as goal

pub returns-clause-own : goal.returns-clause-own
returns-clause-own c = top_module c.args.self.now.nodes c.args.«module».now c.args.name.now c.first_top.result c.first_top.ensures
