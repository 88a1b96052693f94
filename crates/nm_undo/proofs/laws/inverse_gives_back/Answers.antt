use Rattle.nm_undo.proofs.Undone.{gives_back}
use Rattle.nm_undo.proofs.laws.inverse_gives_back.Goals as goal

pub returns : goal.returns
returns c = gives_back
