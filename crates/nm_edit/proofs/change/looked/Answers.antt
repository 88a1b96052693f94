use Rattle.std.proofs.Common.{Err, refl, ap, sym, subst, ◌∙◌}
use Rattle.nm_config.specs.Rows.{Rows}
use Rattle.nm_edit.specs.Edited.{moved}
use Rattle.nm_edit.specs.Refusals.{Passes}
use Rattle.nm_overlay.specs.Differences.{differences}
use Rattle.nm_overlay.proofs.Said.{said_ascends, said_changes, said_rows}
use Rattle.nm_overlay.proofs.Changed.{overridden-differences}
use Rattle.nm_edit.specs.Changed.{too_large}
use Rattle.nm_edit.proofs.Exact.{differences_change}
use Rattle.nm_edit.proofs.Outcome.{within, large, handed}
use Rattle.nm_edit.proofs.change.looked.Goals as goal

pub refuse_large-requires-clause-ascends : goal.refuse_large-requires-clause-ascends
refuse_large-requires-clause-ascends g c =
    let old = g.M.RowMap.rows c.args.rows.now in
    said_ascends (differences old (moved old c.in_ok-moves.moves)) c.deref.result.now (c.deref.ensures.value ∙ c.in_ok-changes.ensures)

pub refuse_large-requires-clause-changes : goal.refuse_large-requires-clause-changes
refuse_large-requires-clause-changes g c =
    let old = g.M.RowMap.rows c.args.rows.now in
    let made = moved old c.in_ok-moves.moves in
    said_changes (differences old made) c.deref.result.now (c.deref.ensures.value ∙ c.in_ok-changes.ensures) old old refl (differences_change old made)

pub returns-in_err-refuse_large : goal.returns-in_err-refuse_large
returns-in_err-refuse_large g c =
    let old = g.M.RowMap.rows c.args.rows.now in
    let made = moved old c.in_ok-moves.moves in
    let all = c.deref.ensures.value ∙ c.in_ok-changes.ensures in
    let rows_are = said_rows (differences old made) c.deref.result.now all old old refl ∙ overridden-differences old made in
    let fault = c.in_err-refuse_large.field-0.0 in
    handed old _ fault c.from_residual-in_err-refuse_large.result c.from_residual-in_err-refuse_large.ensures.0 c.from_residual-in_err-refuse_large.ensures.1
    (large old made _ fault c.in_ok-moves.ensures (subst (λ (m : Rows). Passes (Err fault) (too_large m)) rows_are c.in_err-refuse_large.ensures))

pub returns : goal.returns
returns g c =
    let old = g.M.RowMap.rows c.args.rows.now in
    let made = moved old c.in_ok-moves.moves in
    let all = c.deref.ensures.value ∙ c.in_ok-changes.ensures in
    let rows_are = said_rows (differences old made) c.deref.result.now all old old refl ∙ overridden-differences old made in
    (c.in_ok-moves.ensures ∙ within made (ap too_large (sym rows_are) ∙ c.in_ok-refuse_large.ensures), c.in_ok-changes.ensures)
