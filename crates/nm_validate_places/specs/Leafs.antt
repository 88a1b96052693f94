-- Values of leafs and whether they are in use, step by step (RFC 7950 section 7.6.1), and a step by which values are kept.
use Rattle.std.specs.Prelude.{ℕ, List, [], Bool, ◌&&◌, Option}
use Rattle.std.specs.Option.{option_or}
use Rattle.std.specs.FinMap.{get}
use Rattle.nm_types.specs.declared.value.Value.{Value}
use Rattle.nm_types.specs.Path.{PathStep, keys as by_keys}
use Rattle.nm_schema_tree.specs.Nodes.{SchemaTree}
use Rattle.nm_path.specs.Spelling.{node_of}
use Rattle.nm_config.specs.Rows.{Rows}
use Rattle.nm_config.specs.Under.{is_whole}
use Rattle.nm_validate_rules.specs.Guards.{is_allowed_at}
use Rattle.nm_validate_rules.specs.Values.{default_in_use}
use Rattle.nm_validate_rules.specs.Violated.{last_chosen}

-- the last step of a path has no predicates, and leads to a node whose case holds
abbrev pub is_open : SchemaTree → Rows → List PathStep → List PathStep → Bool
is_open t rows above path = is_whole (last_chosen path) && is_allowed_at t rows above (node_of t path)

-- the value of a leaf that is no key: that of its row, or its default in use
abbrev pub row_or_default : SchemaTree → Rows → List PathStep → ℕ → Option Value
row_or_default t rows path x = option_or (get rows path) (default_in_use t rows path x)

-- a step that has these values and leads nowhere
abbrev pub step_of : List Value → PathStep
step_of values = record { «module» = []; name = []; chosen = by_keys values }
