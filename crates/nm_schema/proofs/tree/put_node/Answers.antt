use Rattle.std.proofs.Common.{◌∙◌, ap, sym}
use Rattle.nm_schema_tree.specs.Nodes.{SchemaTree}
use Rattle.nm_schema.proofs.Putting.{follows, are-more}
use Rattle.nm_schema.proofs.tree.put_node.Goals as goal

pub push-requires : goal.push-requires
push-requires c = follows c.args.grounds.now.rows c.args.grounds.now.facts c.args.number c.args.schema.now.nodes c.unwrap-node.result c.requires.expansion c.requires.before (sym c.in_ok-node_of.ensures ∙ c.unwrap-node.ensures)

pub returns-clause-put : goal.returns-clause-put
returns-clause-put c = are-more c.args.grounds.now.rows c.args.grounds.now.facts c.args.number c.args.schema.now.nodes c.push.new.self.nodes c.unwrap-node.result c.requires.before (sym c.in_ok-node_of.ensures ∙ c.unwrap-node.ensures) (ap (λ (t : SchemaTree). t.nodes) c.in_ok-push.ensures.pushed)
