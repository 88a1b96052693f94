use Rattle.nm_decider.proofs.Ranks.{asked_once}
use Rattle.nm_decider.proofs.laws.commits_are_asked_once.Goals as goal

pub returns : goal.returns
returns c device course moves driven = asked_once device course moves driven
