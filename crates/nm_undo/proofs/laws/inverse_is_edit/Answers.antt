use Rattle.nm_undo.proofs.Undone.{inverse_edits}
use Rattle.nm_undo.proofs.laws.inverse_is_edit.Goals as goal

pub returns : goal.returns
returns c = inverse_edits
