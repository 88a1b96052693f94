use Rattle.nm_manager.proofs.Kept.{asks_fit}
use Rattle.nm_manager.proofs.laws.requests_ask_what_is_next.Goals as goal

pub returns : goal.returns
returns c = asks_fit
