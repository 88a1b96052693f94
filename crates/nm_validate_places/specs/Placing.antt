-- The path of a node at a place.
use Rattle.std.specs.Prelude.{ℕ, List, [], ◌∷◌, ◌++◌, if◌then◌else◌}
use Rattle.nm_types.specs.Path.{PathStep}
use Rattle.nm_schema_tree.specs.Nodes.{SchemaTree, case_at}
use Rattle.nm_config.specs.Rows.{Rows}
use Rattle.nm_validate_rules.specs.Cases.{bare, is_allowed}

-- the path of node x at a place, where the case holds there that it stands in, or it stands in none
abbrev pub place_at : SchemaTree → Rows → ℕ → List PathStep → List (List PathStep)
place_at t rows x above = if is_allowed t rows above (case_at t.nodes x) then (above ++ bare t.nodes x ∷ []) ∷ [] else []
