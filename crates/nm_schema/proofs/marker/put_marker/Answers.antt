use Rattle.std.proofs.Common.{ap}
use Rattle.nm_schema_tree.specs.Nodes.{SchemaTree}
use Rattle.nm_schema.proofs.Marking.{changes-follows, applied-follows, change-follows}
use Rattle.nm_schema.proofs.marker.put_marker.Goals as goal

pub push-requires : goal.push-requires
push-requires c = changes-follows c.args.schema.now.nodes c.in_ok-changes_node.field-0 c.in_ok-changes_node.ensures

pub push-requires-2 : goal.push-requires-2
push-requires-2 c =
    applied-follows c.args.schema.now.nodes c.push.new.self.nodes c.in_ok-changes_node.field-0 c.in_ok-applied_node.field-0 c.in_ok-changes.changes c.in_ok-changes_node.ensures
    (ap (λ (t : SchemaTree). t.nodes) c.in_ok-changes.ensures.pushed) c.in_ok-changes.ensures.number c.in_ok-applied_node.ensures

pub push-requires-3 : goal.push-requires-3
push-requires-3 c =
    change-follows c.args.schema.now.nodes c.push.new.self.nodes c.push-2.new.self.nodes c.in_ok-changes_node.field-0 c.in_ok-applied_node.field-0 c.in_ok-change_node.field-0 c.in_ok-changes.changes
    (ap (λ (t : SchemaTree). t.nodes) c.in_ok-changes.ensures.pushed) (ap (λ (t : SchemaTree). t.nodes) c.in_ok-push.ensures.pushed) c.in_ok-changes.ensures.number c.in_ok-applied_node.ensures c.in_ok-change_node.ensures
