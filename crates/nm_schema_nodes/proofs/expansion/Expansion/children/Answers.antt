use Rattle.std.proofs.Common.{◌≡◌, ◌≤◌, [], length, sym, subst, arith}
use Rattle.nm_schema_nodes.specs.Expansion.{Expanded, children}
use Rattle.nm_schema_nodes.proofs.Indexing.{children-past}
use Rattle.nm_schema_nodes.proofs.expansion.Expansion.children.Goals as goal

pub returns : goal.returns
returns c =
    let size = c.self.invariant.index_is.children_are.size in
    let past : length c.self.inside.nodes.items ≤ c.args.at = omega (arith, size) in
    subst (λ (e : Expanded). [] ≡ children e.nodes c.args.at) c.self.view_is (sym (children-past c.self.inside.shape.now.rows c.self.inside.shape.now.groupings c.self.inside.nodes.items c.args.at c.self.invariant.expansion past))
