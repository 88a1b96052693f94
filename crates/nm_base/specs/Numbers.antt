-- Lists of numbers.
use Rattle.std.specs.Prelude.{ℕ, ◌==◌, List, Bool}
use Rattle.std.specs.List.{list_any}

-- a number is among these (this project's own)
unfoldable pub is_among : ℕ → List ℕ → Bool
is_among i is = list_any (λ j. j == i) is
