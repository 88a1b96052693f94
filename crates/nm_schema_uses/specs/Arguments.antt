-- The arguments of rows.
use Rattle.std.specs.Prelude.{ℕ, List, [], Option, Some, None, slice_get}
use Rattle.nm_schema_statements.specs.declared.row.Row.{Row}
use Rattle.nm_schema_statements.specs.Flaw.{text_of}

-- the argument of a row: of a node, its name
abbrev pub argument_in : Option Row → List ℕ
argument_in None = []
argument_in (Some r) = text_of r.argument

-- the argument of row i
unfoldable pub argument_at : List Row → ℕ → List ℕ
argument_at rows i = argument_in (slice_get rows i)
