use Rattle.std.proofs.Common.{◌≡◌, Bool, IfOk, ap, subst, ◌∙◌}
use Rattle.std.specs.List.{list_any}
use Rattle.nm_validate_rules.specs.Cases.{exists_at, numbers}
use Rattle.nm_validate_rules.specs.Violated.{has_node, is_of_choice}
use Rattle.nm_validate_places.proofs.Below.{any_kept}
use Rattle.nm_incremental.proofs.choices.has_node.Goals as goal

pub returns : goal.returns
unfolding has_node
returns g c =
    let t = c.args.schema.now in
    let there = exists_at t (g.M.RowMap.rows c.args.config.now) c.args.above.now in
    subst (λ (b : Bool). IfOk c.any_at.result (λ has. has ≡ b))
    (ap (list_any there) (c.nodes_in.ensures ∙ c.requires.choices.each c.args.at c.requires.within) ∙ any_kept (is_of_choice t c.args.at) there (numbers t.nodes)) c.any_at.ensures
