use Rattle.std.proofs.Common.{◌≡◌, ◌<◌, ℕ, Bool, IfOk, ap, ◌∙◌, subst}
use Rattle.std.specs.List.{list_any}
use Rattle.nm_validate_rules.specs.Cases.{is_in_case, numbers}
use Rattle.nm_validate_places.proofs.Below.{any_kept}
use Rattle.nm_validate_rules.specs.Reads.{case_reads, tells}
use Rattle.nm_incremental.proofs.guarded.case_reads.Goals as goal

pub returns-then-case-cases : goal.returns-then-case-cases
unfolding case_reads
returns-then-case-cases c =
    let t = c.args.schema.now in
    let lt = subst (λ (n : ℕ). c.args.case < n) c.requires.count c.if-case-cases.true in
    subst (λ (b : Bool). IfOk c.any_tells.result (λ is. is ≡ b)) (
    ap (list_any (λ (x : ℕ). tells t c.args.above.now x c.args.row.now)) (c.nodes_in.ensures ∙ c.requires.each c.args.case lt)
    ∙ any_kept (is_in_case t c.args.case) (λ (x : ℕ). tells t c.args.above.now x c.args.row.now) (numbers t.nodes)) c.any_tells.ensures

pub returns : goal.returns
unfolding case_reads
returns c =
    let t = c.args.schema.now in
    subst (λ (b : Bool). IfOk c.any_tells-2.result (λ is. is ≡ b)) (
    ap (list_any (λ (x : ℕ). tells t c.args.above.now x c.args.row.now)) (c.deref.ensures.value ∙ c.in_ok-nodes.ensures)
    ∙ any_kept (is_in_case t c.args.case) (λ (x : ℕ). tells t c.args.above.now x c.args.row.now) (numbers t.nodes)) c.any_tells-2.ensures
