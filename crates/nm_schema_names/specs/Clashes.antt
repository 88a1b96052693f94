-- What is known of the names that come twice.
use Rattle.std.specs.Prelude.{ℕ, List, Option}
use Rattle.nm_schema_statements.specs.declared.row.Row.{Row}
use Rattle.nm_schema_names.specs.Clash.{claimed, AreClashes, AreCaseClashes}

-- which names come twice where they stand, and which of the cases of one choice
pub record AreAllClashes (rows : List Row) (groupings : List (Option ℕ)) (found cases : List (Option (List ℕ))) : Type 0 where
  pub clashes : AreClashes (claimed rows groupings) rows found
  pub case_clashes : AreCaseClashes rows cases
