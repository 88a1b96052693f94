use Rattle.std.proofs.Common.{length, ap, sym, ◌∙◌}
use Rattle.std.specs.FinMap.{contains_key}
use Rattle.nm_config.specs.Rows.{Rows}
use Rattle.nm_validate_leafref.specs.Kept.{kept_at}
use Rattle.nm_validate_leafref.proofs.Knowing.{kept_reached, told_by}
use Rattle.nm_validate_leafref.proofs.known.is_reached.Goals as goal

pub returns-then-is_kept-clause-told : goal.returns-then-is_kept-clause-told
returns-then-is_kept-clause-told g c =
    let here = ap (λ k. contains_key c.args.kept.now k) (sym c.in_ok-path.ensures) ∙ sym c.is_kept.ensures ∙ c.if-is_kept.true in
    kept_reached c.args.schema.now (g.M.RowMap.rows c.args.config.now) c.args.kept.now c.args.context.now c.args.target c.args.value.now c.requires.knows here

pub returns-clause-told : goal.returns-clause-told
returns-clause-told g c =
    let rows = g.M.RowMap.rows c.args.config.now in
    let steps = c.context.inside.steps in
    let long = c.len.ensures ∙ steps.ok.0 ∙ ap length c.context.view_is in
    c.is_kept-2.ensures ∙ ap (λ k. contains_key c.know.new.kept k) c.in_ok-path.ensures
    ∙ ap (λ (m : Rows). contains_key m (kept_at c.args.context.now c.args.target c.args.value.now)) c.in_ok-know.ensures
    ∙ told_by c.args.schema.now rows c.args.kept.now c.args.context.now c.args.target c.args.value.now c.len.result c.requires.knows long
