use Rattle.std.proofs.Common.{sym, subst}
use Rattle.nm_undo.specs.Since.{is_changed, IsFirstOf}
use Rattle.nm_undo.proofs.First.{first_is}
use Rattle.nm_undo.proofs.since.changed_since.Goals as goal

pub returns : goal.returns
returns g c =
    let made = g.M.RowMap.rows c.args.made.now in
    let later = g.M.RowMap.rows c.args.later.now in
    subst (IsFirstOf (is_changed c.args.schema.now c.args.inverse.now made later)) (sym c.least_other.ensures)
    (first_is c.args.schema.now c.args.inverse.now made later c.in_ok-paths.paths.items c.in_ok-paths.ensures)
