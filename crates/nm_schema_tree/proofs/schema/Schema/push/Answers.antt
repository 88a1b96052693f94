use Rattle.std.proofs.Common.{◌≡◌, length, rules, sym, subst}
use Rattle.nm_schema_tree.specs.Nodes.{SchemaTree, may_follow}
use Rattle.nm_schema_tree.proofs.Indexes.{indexed_push, tree_push}
use Rattle.nm_schema_tree.proofs.schema.Schema.push.Goals as goal

pub invariant_of-self-2 : goal.invariant_of-self-2
invariant_of-self-2 c =
    let nodes = c.self.inside.nodes.items in
    let n = c.args.node in
    let at : c.len-at.result ≡ length nodes = search rules in
    let follows = subst (λ (t : SchemaTree). may_follow t.nodes n.parent n.«module») (sym c.self.view_is) c.requires in
    let below = rw (at, c.in_ok-reserve-2.ensures.items) at c.in_ok-put_node.ensures.below in
    let above = rw at at c.in_ok-put_node.ensures.top in
    rw (c.push_reserved-2.ensures.items, c.in_ok-reserve.ensures.items, c.push_reserved.ensures.items)
    (tree_push nodes n c.self.invariant.0 follows, indexed_push nodes c.self.inside.levels.items c.put_node.new.levels.items c.self.inside.top c.put_node.new.top n c.new.result c.self.invariant.1 below above c.new.ensures.order c.new.ensures.first, c.self.invariant.2)
