-- An entry that repeats the values of one before it, judged row by row (RFC 7950 section 7.8.3).
use Rattle.std.specs.Prelude.{ℕ, List, Bool, ◌&&◌, map}
use Rattle.std.specs.List.{list_any}
use Rattle.nm_types.specs.declared.value.Value.{Value}
use Rattle.nm_types.specs.Path.{PathStep}
use Rattle.nm_schema_tree.specs.Nodes.{SchemaTree}
use Rattle.nm_config.specs.Rows.{Rows}
use Rattle.nm_validate_rules.specs.Values.{is_before, are_values, is_repeated, unique_values}
use Rattle.nm_validate_places.specs.declared.areas.NodeRow.{NodeRow}

-- a row is an entry before another that has these values in some leafs
abbrev pub is_repeated_by : SchemaTree → Rows → List PathStep → List ℕ → List Value → List PathStep → Bool
is_repeated_by t rows entry leafs values other = is_before entry other && are_values values (unique_values t rows other leafs)

-- one of these rows is
abbrev pub is_repeated_in : SchemaTree → Rows → List PathStep → List ℕ → List Value → List NodeRow → Bool
is_repeated_in t rows entry leafs values others = list_any (λ row. is_repeated_by t rows entry leafs values row.path.now) others

-- an entry before another has the same values in some leafs
abbrev pub is_repeated_at : SchemaTree → Rows → List PathStep → List ℕ → Bool
is_repeated_at t rows entry leafs = is_repeated t rows entry leafs (unique_values t rows entry leafs)
