use Rattle.nm_access.proofs.Decisions.{kills_none}
use Rattle.nm_access.proofs.laws.nobody_kills_sessions_without_a_rule.Goals as goal

pub returns : goal.returns
returns c = kills_none
