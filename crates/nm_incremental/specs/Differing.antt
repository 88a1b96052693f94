-- The rows at which two configurations differ at or below some paths (this project's own).
use Rattle.std.specs.Prelude.{List, ◌++◌, Bool, true, false, not, Option, Some, None, filter}
use Rattle.std.specs.List.{flat_map}
use Rattle.std.specs.FinMap.{get, contains_key, keys}
use Rattle.nm_types.specs.declared.value.Value.{Value}
use Rattle.nm_types.specs.Path.{PathStep}
use Rattle.nm_types.specs.Value.{is_same_value}
use Rattle.nm_config.specs.Rows.{Rows}
use Rattle.nm_config.specs.Under.{is_under}

-- of some configuration the paths of rows at or below a path
abbrev pub rows_at : Rows → List PathStep → List (List PathStep)
rows_at rows path = filter (is_under path) (keys rows)

-- a row is the same in two configurations: it has one value in both, or is in neither
abbrev pub is_same_row : Option Value → Option Value → Bool
is_same_row None None = true
is_same_row (Some one) (Some other) = is_same_value one other
is_same_row _ _ = false

-- two configurations have other values at a path
abbrev pub differs : Rows → Rows → List PathStep → Bool
differs base next path = not (is_same_row (get base path) (get next path))

-- the rows of the first that the second lacks or has with another value, and those that only the second has
abbrev pub differing_at : Rows → Rows → List PathStep → List (List PathStep)
differing_at base next path = filter (differs base next) (rows_at base path) ++ filter (λ row. not (contains_key base row)) (rows_at next path)

-- the rows at or below some paths that two configurations don't have alike
abbrev pub differing : Rows → Rows → List (List PathStep) → List (List PathStep)
differing base next touched = flat_map (differing_at base next) touched
