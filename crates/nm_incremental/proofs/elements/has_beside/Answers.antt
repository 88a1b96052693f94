use Rattle.std.proofs.Common.{◌≡◌, Bool, IfOk, subst}
use Rattle.nm_schema_tree.specs.Nodes.{case_at}
use Rattle.nm_validate_places.proofs.Elements.{beside_is}
use Rattle.nm_incremental.proofs.elements.has_beside.Goals as goal

pub returns : goal.returns
returns g c =
    let t = c.args.schema.now in
    subst (λ (b : Bool). IfOk c.is_allowed_by.result (λ is. is ≡ b))
    (beside_is t (g.M.RowMap.rows c.args.config.now) c.args.above.now c.args.at (case_at t.nodes c.args.at) c.in_ok-others.others c.in_ok-others.ensures) c.is_allowed_by.ensures
