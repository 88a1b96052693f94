use Rattle.std.proofs.Common.{◌∙◌, sym, arith, inl, inr}
use borrow.Author.Tests.{eqb-true, eqb-false}
use Rattle.nm_types.proofs.Paths.{path_cmp-empty, path_cmp-parts, decided_later, decided_first}
use Rattle.nm_types.proofs.path.order_of_steps.Goals.{then-is_empty-via-then-is_empty, then-is_empty-via-else-is_empty+then-is_empty-2}
use Rattle.nm_types.proofs.path.order_of_steps.Goals as goal

pub returns-then-is_empty : goal.returns-then-is_empty
returns-then-is_empty c = elim c.then-is_empty.branch [
  | then-is_empty-via-then-is_empty w ↦
      c.cmp.ensures ∙ path_cmp-empty c.args.ours.now c.args.theirs.now (inl (eqb-true _ _ (sym w.if-is_empty.ensures)))
  | then-is_empty-via-else-is_empty+then-is_empty-2 w ↦
      c.cmp.ensures ∙ path_cmp-empty c.args.ours.now c.args.theirs.now (inr (eqb-true _ _ (sym w.if-is_empty-2.ensures)))
]

pub returns-in-Equal : goal.returns-in-Equal
returns-in-Equal c = c.cmp-in-Equal.ensures ∙ decided_later _ _ _ (sym c.order_at_top.ensures ∙ c.in-Equal.is)
    (path_cmp-parts c.args.ours.now c.args.theirs.now c.index-ours-0.result c.index-theirs-0.result
    (omega (arith, eqb-false _ _ (sym c.if-is_empty.ensures))) (omega (arith, eqb-false _ _ (sym c.if-is_empty-2.ensures)))
    c.index-ours-0.is c.index-theirs-0.is)

pub returns-in_default : goal.returns-in_default
returns-in_default c = c.order_at_top.ensures ∙ decided_first _ _ _ (λ e. c.in_default.not-Equal (c.order_at_top.ensures ∙ e))
    (path_cmp-parts c.args.ours.now c.args.theirs.now c.index-ours-0.result c.index-theirs-0.result
    (omega (arith, eqb-false _ _ (sym c.if-is_empty.ensures))) (omega (arith, eqb-false _ _ (sym c.if-is_empty-2.ensures)))
    c.index-ours-0.is c.index-theirs-0.is)
