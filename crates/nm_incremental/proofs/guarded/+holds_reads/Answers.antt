use Rattle.std.proofs.Common.{◌≡◌, Bool, List, IfOk, ap, subst, sym, ◌∙◌, arith}
use Rattle.nm_types.specs.Path.{PathStep}
use Rattle.nm_validate_rules.specs.Reads.{holds_reads}
use Rattle.nm_validate_places.proofs.InUse.{front_less, some_steps}
use Rattle.nm_incremental.specs.Guarded.{open_by}
use Rattle.nm_incremental.proofs.Guards.{holds_top, holds_own, holds_other}
use Rattle.nm_incremental.proofs.guarded.+holds_reads.Goals as goal

pub returns-then-is_top : goal.returns-then-is_top
returns-then-is_top t c = sym (holds_top c.args.schema.now c.args.row.now c.args.path.now (sym c.is_top.ensures ∙ c.if-is_top.true))

pub returns-then-is_own : goal.returns-then-is_own
returns-then-is_own t c =
    c.eq.ensures ∙ sym (holds_own c.args.schema.now c.args.row.now c.args.path.now (sym c.is_top.ensures ∙ c.if-is_top.false) (sym c.is_own.ensures ∙ c.if-is_own.true))

pub returns : goal.returns
returns t c =
    let tree = c.args.schema.now in
    let path = c.args.path.now in
    let row = c.args.row.now in
    let above = c.in_ok-above.ensures in
    subst (λ (b : Bool). IfOk c.open_reads.result (λ is. is ≡ b)) (
    ap (λ (b : Bool). open_by tree b c.in_ok-above.above path row) c.in_ok-so_far.ensures
    ∙ ap (λ (a : List PathStep). open_by tree (holds_reads tree a row) a path row) above
    ∙ sym (holds_other tree row path (sym c.is_top.ensures ∙ c.if-is_top.false) (sym c.is_own.ensures ∙ c.if-is_own.false))) c.open_reads.ensures

pub holds_reads-requires : goal.holds_reads-requires
holds_reads-requires t c =
    let some = sym c.is_top.ensures ∙ c.if-is_top.false in
    let less = c.decreases in
    let more = some_steps c.args.count c.args.path.now c.requires.counted some in
    (omega (arith, less, more), (c.requires.cases, front_less c.args.count c.args.path.now c.in_ok-above.above c.requires.counted some c.in_ok-above.ensures))
