use Rattle.std.proofs.Common.{◌≡◌, ℕ, Bool, IfOk, ap, ◌∙◌, subst}
use Rattle.std.specs.List.{list_any}
use Rattle.nm_schema_tree.specs.Nodes.{case_at}
use Rattle.nm_validate_places.specs.Members.{AreOthers}
use Rattle.nm_validate_rules.specs.Reads.{tells}
use Rattle.nm_incremental.proofs.Beside.{beside_of}
use Rattle.nm_incremental.proofs.guarded.beside_reads.Goals as goal

pub returns : goal.returns
returns c =
    let t = c.args.schema.now in
    subst (λ (b : Bool). IfOk c.any_tells.result (λ is. is ≡ b)) (
    ap (list_any (λ (y : ℕ). tells t c.args.above.now y c.args.row.now)) c.deref.ensures.value
    ∙ beside_of t c.args.above.now c.args.at c.args.row.now (case_at t.nodes c.args.at) c.in-Some.nodes (subst (AreOthers t c.args.at (case_at t.nodes c.args.at)) c.in-Some.is c.in_ok-others.ensures)) c.any_tells.ensures
