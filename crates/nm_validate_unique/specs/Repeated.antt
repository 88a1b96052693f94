-- Entries that have the same values as one before them, in the leafs that a unique statement names (RFC 7950 section 7.8.3).
use Rattle.std.specs.Prelude.{ℕ, List, [], ◌∷◌, ◌++◌, Bool, false, Option, Some, None, Vec, option_map, if◌then◌else◌}
use Rattle.std.specs.List.{flat_map}
use Rattle.std.specs.FinMap.{empty, insert, contains_key}
use Rattle.std.specs.declared.alloc.Global.{Global}
use Rattle.nm_types.specs.declared.value.Value.{Value}
use Rattle.nm_types.specs.declared.value.Value.TheVariants.{Present}
use Rattle.nm_types.specs.Path.{PathStep}
use Rattle.nm_schema_tree.specs.Nodes.{SchemaTree, uniques_at}
use Rattle.nm_config.specs.Rows.{Rows}
use Rattle.nm_validate_rules.specs.Guards.{front}
use Rattle.nm_validate_rules.specs.Values.{leaf_value, path_in, unique_values}
use Rattle.nm_validate_places.specs.Leafs.{step_of}

-- the value of leaf x in an entry
abbrev pub value_in : SchemaTree → Rows → List PathStep → ℕ → Option Value
value_in t rows entry x = leaf_value t rows (path_in t entry x) x

-- the values that an entry has in the leafs, where it has all
abbrev pub items_in : Option (Vec Value Global) → Option (List Value)
items_in None = None
items_in (Some values) = Some values.items

-- a path for the values of an entry, which tells entries of its list apart that have other values: the values stand first, where such paths differ
abbrev pub unique_path : List PathStep → List Value → List PathStep
unique_path entry values = step_of values ∷ front entry

-- the path for the values of these leafs in an entry, where all have one
abbrev pub key_of : SchemaTree → Rows → List ℕ → List PathStep → Option (List PathStep)
key_of t rows leafs entry = option_map (unique_path entry) (unique_values t rows entry leafs)

-- an entry's values were seen before; where one is missing, they count as not seen (RFC 7950 section 7.8.3)
abbrev pub is_seen : Rows → Option (List PathStep) → Bool
is_seen seen None = false
is_seen seen (Some path) = contains_key seen path

-- what was seen, and an entry's values, where it has all
abbrev pub with_seen : Rows → Option (List PathStep) → Rows
with_seen seen None = seen
with_seen seen (Some path) = insert seen path Present

-- of some entries, one after another, those whose values were seen before
abbrev pub repeated : SchemaTree → Rows → List ℕ → Rows → List (List PathStep) → List (List PathStep)
repeated t rows leafs seen [] = []
repeated t rows leafs seen (entry ∷ entries) =
    (if is_seen seen (key_of t rows leafs entry) then entry ∷ [] else []) ++ repeated t rows leafs (with_seen seen (key_of t rows leafs entry)) entries

-- of the entries of list x those that have the same values as one before, in the leafs of one of its unique statements
abbrev pub repeated_at : SchemaTree → Rows → List (List PathStep) → ℕ → List (List PathStep)
repeated_at t rows entries x = flat_map (λ leafs. repeated t rows leafs empty entries) (uniques_at t.nodes x)
