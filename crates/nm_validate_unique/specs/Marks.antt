-- Numbers for what entries have in the leafs of a unique statement: entries whose numbers differ have other values there.
use Rattle.std.specs.Prelude.{ℕ, ◌+◌, ◌*◌, ◌%◌, ◌^◌, List, [], ◌∷◌, Option, Some, None, unsigned_abs}
use Rattle.std.specs.List.{flat_map}
use Rattle.nm_types.specs.declared.value.Value.{Value}
use Rattle.nm_types.specs.Value.{value_number, value_text}
use Rattle.nm_types.specs.Path.{PathStep, choice_values}
use Rattle.nm_schema_tree.specs.Nodes.{SchemaTree}
use Rattle.nm_config.specs.Rows.{Rows}
use Rattle.nm_validate_unique.specs.Repeated.{key_of}

-- a mark with a number behind it, in 128 bits; the factor is a prime (this project's own)
abbrev pub with_number : ℕ → ℕ → ℕ
with_number mark number = ((mark * 1000003) % 2 ^ 128 + number) % 2 ^ 128

-- a mark with the bytes of a text behind it (this project's own)
unfoldable pub with_text : ℕ → List ℕ → ℕ
with_text mark [] = mark
with_text mark (byte ∷ text) = with_text (with_number mark byte) text

-- a mark with a value behind it (this project's own)
abbrev pub with_value : ℕ → Value → ℕ
with_value mark value = with_text (with_number mark (unsigned_abs (value_number value))) (value_text value)

-- a mark with values behind it, one after another
unfoldable pub with_values : ℕ → List Value → ℕ
with_values mark [] = mark
with_values mark (value ∷ values) = with_values (with_value mark value) values

-- a mark with what some steps choose behind it (this project's own)
unfoldable pub with_steps : ℕ → List PathStep → ℕ
with_steps mark [] = mark
with_steps mark (step ∷ steps) = with_steps (with_values mark (choice_values step.chosen)) steps

-- the mark of a path is made of what its steps choose (this project's own)
abbrev pub path_mark : List PathStep → ℕ
path_mark path = with_steps 0 path

-- the mark of a path, and none of none
abbrev pub mark_by : Option (List PathStep) → List (ℕ × Unit {0})
mark_by None = []
mark_by (Some path) = (path_mark path, tt) ∷ []

-- the marks for the values of these leafs in some entries
abbrev pub marks_in : SchemaTree → Rows → List ℕ → List (List PathStep) → List (ℕ × Unit {0})
marks_in t rows leafs entries = flat_map (λ entry. mark_by (key_of t rows leafs entry)) entries
