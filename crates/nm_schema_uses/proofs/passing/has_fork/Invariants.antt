use Rattle.nm_schema_uses.specs.Holding.{is_fork_at}
use Rattle.nm_schema_uses.proofs.Without.{NoneUntil}
use Rattle.nm_schema_uses.proofs.passing.has_fork.Given as goal

abbrev pub invariant-loop-at : goal.invariant-loop-at
invariant-loop-at l = NoneUntil (is_fork_at l.rows) l.at
