use Rattle.nm_schema_tree.proofs.Finding.{named_parent}
use Rattle.nm_schema_tree.proofs.schema.Schema.child.Goals as goal

pub returns-clause-parent : goal.returns-clause-parent
returns-clause-parent c = named_parent c.args.self.now.nodes c.args.node c.args.name.now c.first_child.result c.first_child.ensures
