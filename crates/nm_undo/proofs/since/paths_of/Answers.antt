use Rattle.std.proofs.Common.{subst, ◌∙◌}
use Rattle.nm_edit.specs.Edited.{RowMoves}
use Rattle.nm_undo.specs.Since.{HasPaths}
use Rattle.nm_undo.proofs.since.paths_of.Goals as goal

pub returns : goal.returns
returns g c =
    let made = g.M.RowMap.rows c.args.made.now in
    let later = g.M.RowMap.rows c.args.later.now in
    subst (λ (m : RowMoves). HasPaths c.args.schema.now c.args.inverse.now.rows m.goes m.comes made later c.in_ok-paths.paths.items) (c.moves.view_is ∙ c.in_ok-moves.ensures) c.in_ok-paths.ensures
