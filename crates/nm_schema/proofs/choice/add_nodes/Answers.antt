use Rattle.std.proofs.Common.{◌≡◌, ◌∙◌, ◌<◌, ◌+◌, List, None, Some, length, get_or, slice_get, refl, sym, ap, subst, arith}
use Rattle.std.proofs.lemmas.Option.{slice_get-get_or}
use Rattle.nm_schema_statements.specs.Rows.{roots}
use Rattle.nm_schema_tree.specs.Nodes.{SchemaTree}
use Rattle.nm_schema_nodes.specs.declared.instance.Instance.{Instance}
use Rattle.nm_schema_nodes.specs.Expansion.{Expanded, IsExpansion, children}
use Rattle.nm_schema.specs.Choices.{places, place_for, AreChosen}
use Rattle.nm_schema.proofs.Chosen.{AreBeside, chosen_next, node_there, children_beside}
use Rattle.nm_schema.proofs.choice.add_nodes.Goals as goal

pub loop-at-preserved : goal.loop-at-preserved
loop-at-preserved c =
    let rows = c.args.grounds.now.rows in
    let facts = c.args.grounds.now.facts in
    let x = c.loop-at.at in
    let n = length (roots rows) + x in
    let none : Instance = record { parent = None; owner = 0; row = 0 } in
    let all = c.nodes-all.ensures ∙ ap (λ (t : Expanded). t.nodes) c.expansion-expansion.ensures in
    let lt = subst (λ (l : List Instance). x < length l) all c.loop-at-test.true in
    let expansion = subst (λ (t : Expanded). IsExpansion t.rows t.groupings t.nodes) c.expansion-expansion.ensures c.laws.ensures in
    let nodes = c.children-nodes.ensures ∙ ap (λ (t : Expanded). children t.nodes x) c.expansion-expansion.ensures in
    let stand = subst (λ l. AreBeside rows facts n l) (sym nodes) (children_beside rows facts expansion n x refl) in
    let at = subst (λ (l : List Instance). slice_get (places rows facts) n ≡ Some (place_for (Some x) (get_or l x none).owner (get_or l x none).row)) (sym all)
    (node_there rows facts x (get_or facts.nodes x none) (slice_get-get_or facts.nodes x none lt)) in
    let node = get_or c.nodes-all.result.now x none in
    let chosen = chosen_next rows facts n (place_for (Some x) node.owner node.row) c.children-nodes.result.now c.loop-at.schema c.add_place.new.schema c.loop-at.case_in.items c.add_place.new.case_in.items
    c.loop-at.invariant.0 at stand c.in_ok-add_place.ensures.schema c.in_ok-add_place.ensures.cases in
    let next : n + 1 ≡ length (roots rows) + (x + 1) = omega arith in (
      subst (λ k. AreChosen rows facts k c.add_place.new.schema.choices c.add_place.new.schema.cases c.add_place.new.case_in.items) next chosen,
      ap (λ (t : SchemaTree). t.nodes) c.in_ok-add_place.ensures.schema ∙ c.loop-at.invariant.1,
      ap (λ (t : SchemaTree). t.modules) c.in_ok-add_place.ensures.schema ∙ c.loop-at.invariant.2,
    )
