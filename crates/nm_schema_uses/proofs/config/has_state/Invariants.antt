use Rattle.nm_schema_uses.specs.Config.{is_state}
use Rattle.nm_schema_uses.proofs.Without.{NoneUntil}
use Rattle.nm_schema_uses.proofs.config.has_state.Given as goal

abbrev pub invariant-loop-at : goal.invariant-loop-at
invariant-loop-at l = NoneUntil (is_state l.rows) l.at
