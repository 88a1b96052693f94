use Rattle.std.proofs.Common.{◌<◌, ℕ, ◌∙◌, subst}
use Rattle.nm_validate_places.proofs.Below.{holds_by}
use Rattle.nm_validate_places.proofs.cases.case_holds.Goals as goal

pub returns-then-case-cases : goal.returns-then-case-cases
returns-then-case-cases g c =
    let lt = subst (λ (n : ℕ). c.args.case < n) c.requires.count c.if-case-cases.true in
    c.in_ok-there.ensures ∙ holds_by c.args.schema.now (g.M.RowMap.rows c.args.config.now) c.args.above.now c.args.case c.nodes_in.result.now (c.nodes_in.ensures ∙ c.requires.each c.args.case lt)

pub returns : goal.returns
returns g c =
    c.in_ok-there-2.ensures ∙ holds_by c.args.schema.now (g.M.RowMap.rows c.args.config.now) c.args.above.now c.args.case c.deref.result.now (c.deref.ensures.value ∙ c.in_ok-nodes.ensures)
