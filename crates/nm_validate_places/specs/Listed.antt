-- Rows as they are listed, with the nodes that their paths lead to, and the first of them that a test refuses.
use Rattle.std.specs.Prelude.{◌≡◌, ℕ, List, [], ◌∷◌, Bool, not, Option, Some, option_map, ⊤}
use Rattle.std.specs.List.{find}
use Rattle.std.specs.FinMap.{get}
use Rattle.nm_types.specs.declared.value.Value.{Value}
use Rattle.nm_types.specs.Path.{PathStep}
use Rattle.nm_schema_tree.specs.declared.node.Node.{Node}
use Rattle.nm_schema_tree.specs.Nodes.{SchemaTree}
use Rattle.nm_path.specs.Spelling.{node_of}
use Rattle.nm_config.specs.Rows.{Rows}
use Rattle.nm_validate_rules.specs.Violated.{fits_at, last_chosen, has_keys}
use Rattle.nm_validate_places.specs.declared.areas.NodeRow.{NodeRow}

-- a row: its path and its value
abbrev pub Row : Type 0
Row = List PathStep × Value

-- the path of a row
abbrev pub path_in : Option Row → Option (List PathStep)
path_in row = option_map (λ r. r.0) row

-- a row alone, without its node
abbrev pub alone : NodeRow → Row
alone row = (row.path.now, row.value.now)

-- these rows have the nodes that their paths lead to
abbrev pub HaveNodes : SchemaTree → List NodeRow → Type 0
HaveNodes t [] = ⊤
HaveNodes t (row ∷ rows) = (row.node ≡ node_of t row.path.now) × HaveNodes t rows

-- a row has a value of the type of its node
abbrev pub has_its_type : List Node → NodeRow → Bool
has_its_type nodes row = fits_at nodes row.node (last_chosen row.path.now) row.value.now

-- these are rows of a configuration
abbrev pub AreRows : Rows → List NodeRow → Type 0
AreRows rows [] = ⊤
AreRows rows (row ∷ others) = (get rows row.path.now ≡ Some row.value.now) × AreRows rows others

-- the path of the first row that passes a test of its node, its path and its value
abbrev pub first_where : (Option ℕ → List PathStep → Value → Bool) → List NodeRow → Option (List PathStep)
first_where test rows = option_map (λ row. row.path.now) (find (λ row. test row.node row.path.now row.value.now) rows)

-- the path of the first row whose value isn't of its type (RFC 7950 section 9.1)
abbrev pub first_bad_value : List Node → List NodeRow → Option (List PathStep)
first_bad_value nodes rows = first_where (λ node path value. not (fits_at nodes node (last_chosen path) value)) rows

-- the path of the first entry that lacks a key or has a bad one (RFC 7950 section 7.8.2)
abbrev pub first_bad_key : List Node → List NodeRow → Option (List PathStep)
first_bad_key nodes rows = first_where (λ node path value. not (has_keys nodes node path)) rows
