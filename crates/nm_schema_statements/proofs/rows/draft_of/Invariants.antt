use Rattle.std.proofs.Common.{drop}
use Rattle.nm_schema_statements.proofs.Putting.{ArePut}
use Rattle.nm_schema_statements.proofs.rows.draft_of.Given as goal

abbrev pub invariant-loop-owner : goal.invariant-loop-owner
invariant-loop-owner l = ArePut l.owner l.draft.rows.items l.draft.below.items l.draft.top (drop l.owner l.modules) l.modules
