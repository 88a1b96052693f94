use Rattle.std.proofs.Common.{◌≡◌, ◌∙◌, None, Some, subst}
use Rattle.nm_schema_nodes.specs.declared.table.Key.{Key}
use Rattle.nm_schema_nodes.specs.Expansion.{Expanded}
use Rattle.nm_schema_nodes.specs.Named.{top_named}
use Rattle.nm_schema_nodes.specs.Index.{IsTable}
use Rattle.nm_schema_nodes.proofs.Tables.{top-found}
use Rattle.nm_schema_nodes.proofs.expansion.Expansion.top_named.Goals as goal

pub returns : goal.returns
unfolding IsTable
returns c =
    let key : Key = record { parent = None; owner = Some c.args.owner; name = c.args.name } in
    subst (λ (e : Expanded). c.get.result ≡ top_named e.rows e.nodes c.args.owner c.args.name.now) c.self.view_is
    (c.get.ensures ∙ c.self.invariant.table_is key ∙ top-found c.self.inside.shape.now.rows c.self.inside.nodes.items c.args.owner c.args.name.now)
