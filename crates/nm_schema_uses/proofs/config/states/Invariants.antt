use Rattle.nm_schema_uses.proofs.Configs.{HaveStates}
use Rattle.nm_schema_uses.proofs.config.states.Given as goal

abbrev pub invariant-loop-at : goal.invariant-loop-at
invariant-loop-at l = HaveStates l.rows l.at l.states.items
