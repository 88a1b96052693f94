use Rattle.nm_undo.proofs.Undone.{gives_back_later}
use Rattle.nm_undo.proofs.laws.inverse_gives_back_later.Goals as goal

pub returns : goal.returns
returns c = gives_back_later
