use Rattle.std.proofs.Common.{ap, ◌∙◌}
use Rattle.nm_edit.specs.Edited.{moved}
use Rattle.nm_edit.proofs.After.{moved_brought}
use Rattle.nm_edit.proofs.edited.bring.Goals as goal

pub returns-clause-brought : goal.returns-clause-brought
returns-clause-brought g c =
    let before = g.M.RowMap.rows c.args.config.now in
    c.in_ok-make_moves.ensures.moved ∙ ap (moved before) c.in_ok-moves.ensures
    ∙ moved_brought c.args.schema.now c.args.old.now before c.args.acts.items
