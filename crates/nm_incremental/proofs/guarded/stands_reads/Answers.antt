use Rattle.std.proofs.Common.{◌≡◌, Bool, List, IfOk, ap, subst, sym, ◌∙◌}
use Rattle.nm_types.specs.Path.{PathStep}
use Rattle.nm_validate_rules.specs.Reads.{holds_reads}
use Rattle.nm_incremental.specs.Guarded.{open_by}
use Rattle.nm_incremental.proofs.Guards.{stands_top, stands_other}
use Rattle.nm_incremental.proofs.guarded.stands_reads.Goals as goal

pub returns-then-is_top : goal.returns-then-is_top
returns-then-is_top c = sym (stands_top c.args.schema.now c.args.row.now c.args.path.now (sym c.is_top.ensures ∙ c.if-is_top.true))

pub returns : goal.returns
returns c =
    let tree = c.args.schema.now in
    let path = c.args.path.now in
    let row = c.args.row.now in
    subst (λ (b : Bool). IfOk c.open_reads.result (λ is. is ≡ b)) (
    ap (λ (b : Bool). open_by tree b c.in_ok-above.above path row) c.in_ok-so_far.ensures
    ∙ ap (λ (a : List PathStep). open_by tree (holds_reads tree a row) a path row) c.in_ok-above.ensures
    ∙ sym (stands_other tree row path (sym c.is_top.ensures ∙ c.if-is_top.false))) c.open_reads.ensures
