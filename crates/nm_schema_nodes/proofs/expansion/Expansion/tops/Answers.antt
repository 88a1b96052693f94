use Rattle.std.proofs.Common.{◌≡◌, ◌≤◌, [], length, sym, subst, arith}
use Rattle.nm_schema_statements.specs.Rows.{roots}
use Rattle.nm_schema_nodes.specs.Expansion.{Expanded, tops}
use Rattle.nm_schema_nodes.proofs.Indexing.{tops-past}
use Rattle.nm_schema_nodes.proofs.expansion.Expansion.tops.Goals as goal

pub returns : goal.returns
returns c =
    let size = c.self.invariant.index_is.tops_are.size in
    let past : length (roots c.self.inside.shape.now.rows) ≤ c.args.owner = omega (arith, size) in
    subst (λ (e : Expanded). [] ≡ tops e.nodes c.args.owner) c.self.view_is (sym (tops-past c.self.inside.shape.now.rows c.self.inside.shape.now.groupings c.self.inside.nodes.items c.args.owner c.self.invariant.expansion past))
