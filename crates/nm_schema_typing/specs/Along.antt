-- Values along the type graph (this project's own).
use Rattle.std.specs.Prelude.{ℕ, zero, suc, List, map, length, Option, None}
use Rattle.nm_graph.specs.Value.{Step, strict}
use Rattle.nm_schema_statements.specs.declared.row.Row.{Row}
use Rattle.nm_schema_typing.specs.TypeGraph.{leads}
use Rattle.nm_schema_typing.specs.Meaning.{Meaning, meaning_step}

-- the value of a row from those that at most so many steps make
abbrev pub within : {Y : Type 0} → Step Y → (ℕ → List ℕ) → ℕ → ℕ → Option Y
within step next zero i = None
within step next (suc steps) i = step i (map (within step next steps) (next i))

-- the meaning of row i: of a `type` statement, and of a typedef, leaf or leaf-list by the `type` statement in it; none where
-- a restriction is refused, where something is lacking, where the type that is named has none, and where types lead to
-- themselves
unfoldable pub meaning_of : List Row → List (Option ℕ) → ℕ → Option Meaning
meaning_of rows typedefs i = within (strict (meaning_step rows)) (leads rows typedefs) (length rows) i
