use Rattle.nm_edit.proofs.Outcome.{makes_edited}
use Rattle.nm_edit.proofs.change_laws.changes_make_edited.Goals as goal

pub returns : goal.returns
returns c = makes_edited
