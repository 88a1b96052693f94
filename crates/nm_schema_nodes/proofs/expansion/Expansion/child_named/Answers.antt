use Rattle.std.proofs.Common.{◌≡◌, ◌∙◌, None, Some, subst}
use Rattle.nm_schema_nodes.specs.declared.table.Key.{Key}
use Rattle.nm_schema_nodes.specs.Expansion.{Expanded}
use Rattle.nm_schema_nodes.specs.Named.{child_named}
use Rattle.nm_schema_nodes.specs.Index.{IsTable}
use Rattle.nm_schema_nodes.proofs.Tables.{child-found}
use Rattle.nm_schema_nodes.proofs.expansion.Expansion.child_named.Goals as goal

pub returns : goal.returns
unfolding IsTable
returns c =
    let key : Key = record { parent = Some c.args.at; owner = None; name = c.args.name } in
    subst (λ (e : Expanded). c.get.result ≡ child_named e.rows e.nodes c.args.at c.args.name.now) c.self.view_is
    (c.get.ensures ∙ c.self.invariant.table_is key ∙ child-found c.self.inside.shape.now.rows c.self.inside.nodes.items c.args.at c.args.name.now)
