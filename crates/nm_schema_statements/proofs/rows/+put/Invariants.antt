use Rattle.std.proofs.Common.{drop, ◌+◌, ◌*◌}
use Rattle.nm_yang.specs.Tree.{tree_size, trees_size, trees_of}
use Rattle.nm_schema_statements.proofs.Putting.{IsPut}
use Rattle.nm_schema_statements.proofs.rows.+put.Given as goal

abbrev pub invariant-put_each-loop-statement : goal.invariant-put_each-loop-statement
invariant-put_each-loop-statement l = IsPut l.owner l.parent l.fn.draft.rows.items l.statements l.draft.rows.items l.draft.below.items l.draft.top (drop l.statement-index l.statements)

abbrev pub decreases-put_each : goal.decreases-put_each
decreases-put_each l = 2 * trees_size (trees_of l.statements.now) + 1

abbrev pub decreases-put_statement : goal.decreases-put_statement
decreases-put_statement l = 2 * tree_size l.statement.now
