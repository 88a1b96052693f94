use Rattle.std.proofs.Common.{◌∙◌, ◌<◌, List, None, length, get_or, refl, sym, ap, subst}
use Rattle.nm_schema_statements.specs.declared.row.Row.{Row}
use Rattle.nm_schema_statements.specs.Rows.{roots}
use Rattle.nm_schema_tree.specs.Nodes.{SchemaTree}
use Rattle.nm_schema_nodes.specs.Expansion.{Expanded, IsExpansion, tops}
use Rattle.nm_schema.specs.Choices.{place_for}
use Rattle.nm_schema.proofs.Chosen.{AreBeside, chosen_next, top_there, tops_beside}
use Rattle.nm_schema.proofs.choice.add_tops.Goals as goal

pub loop-owner-preserved : goal.loop-owner-preserved
loop-owner-preserved c =
    let rows = c.args.grounds.now.rows in
    let facts = c.args.grounds.now.facts in
    let m = c.loop-owner.owner in
    let roots_are = c.roots-roots.ensures ∙ ap (λ (rs : List Row). roots rs) c.rows.ensures in
    let lt = subst (λ l. m < length l) roots_are c.loop-owner-test.true in
    let row = get_or c.roots-roots.result.now m 0 in
    let expansion = subst (λ (t : Expanded). IsExpansion t.rows t.groupings t.nodes) c.expansion-expansion.ensures c.laws.ensures in
    let nodes = c.tops-nodes.ensures ∙ ap (λ (t : Expanded). tops t.nodes m) c.expansion-expansion.ensures in
    let stand = subst (λ l. AreBeside rows facts m l) (sym nodes) (tops_beside rows facts expansion m lt) in
    let at = top_there rows facts m m row lt refl (ap (λ l. get_or l m 0) roots_are) in
    let chosen = chosen_next rows facts m (place_for None m row) c.tops-nodes.result.now c.loop-owner.schema c.add_place.new.schema c.loop-owner.case_in.items c.add_place.new.case_in.items
    c.loop-owner.invariant.0 at stand c.in_ok-add_place.ensures.schema c.in_ok-add_place.ensures.cases in
    (chosen, ap (λ (t : SchemaTree). t.nodes) c.in_ok-add_place.ensures.schema ∙ c.loop-owner.invariant.1, ap (λ (t : SchemaTree). t.modules) c.in_ok-add_place.ensures.schema ∙ c.loop-owner.invariant.2)
