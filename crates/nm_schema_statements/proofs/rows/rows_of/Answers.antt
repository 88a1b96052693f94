use Rattle.std.proofs.Common.{length, ap, ◌∙◌}
use Rattle.nm_schema_statements.specs.Rows.{roots}
use Rattle.nm_schema_statements.proofs.Modules.{count_of_tops}
use Rattle.nm_schema_statements.proofs.rows.rows_of.Goals as goal

pub returns-clause-roots : goal.returns-clause-roots
returns-clause-roots c = ap (λ rows. length (roots rows)) c.in_ok-draft.ensures.rows ∙ count_of_tops c.args.modules.now
