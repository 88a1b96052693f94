-- A rough number of each path, by which rows in disorder are brought near their order.
use Rattle.std.specs.Prelude.{ℕ, ◌+◌, ◌*◌, ◌%◌, ◌^◌, Bool, List, [], ◌∷◌, if◌then◌else◌}
use Rattle.nm_types.specs.declared.value.Value.{Value}
use Rattle.nm_types.specs.Value.{value_text}
use Rattle.nm_types.specs.Path.{Choice, PathStep, choice_values}
use Rattle.nm_config.specs.Under.{is_whole}

-- a number with a byte behind it, in 128 bits (this project's own)
abbrev pub with_byte : ℕ → ℕ → ℕ
with_byte number byte = ((number * 256) % 2 ^ 128 + byte) % 2 ^ 128

-- a number with the first bytes of a text behind it, which are laid over these (this project's own)
unfoldable pub with_bytes : ℕ → List ℕ → List ℕ → ℕ
with_bytes number [] text = number
with_bytes number (byte ∷ bytes) [] = with_bytes (with_byte number byte) bytes []
with_bytes number (byte ∷ bytes) (over ∷ text) = with_bytes (with_byte number over) bytes text

-- the text of the first of some values, and none where none is
abbrev pub first_text : List Value → List ℕ
first_text [] = []
first_text (value ∷ values) = value_text value

-- the bytes under the first four of a name
abbrev pub under_name : List ℕ
under_name = 0 ∷ 0 ∷ 0 ∷ 0 ∷ []

-- the bytes under the first twelve of a value
abbrev pub under_value : List ℕ
under_value = 0 ∷ 0 ∷ 0 ∷ 0 ∷ 0 ∷ 0 ∷ 0 ∷ 0 ∷ 0 ∷ 0 ∷ 0 ∷ 0 ∷ []

-- the number of a step: the first bytes of its name, then those of the first value that it chooses
abbrev pub of_step : PathStep → ℕ
of_step step = with_bytes (with_bytes 0 under_name step.name) under_value (first_text (choice_values step.chosen))

-- the number of some steps: that of the first that chooses an entry, and else of the last
unfoldable pub of_steps : List PathStep → ℕ
of_steps [] = 0
of_steps (step ∷ []) = of_step step
of_steps (step ∷ next ∷ steps) = if is_whole step.chosen then of_steps (next ∷ steps) else of_step step
