-- The least of paths that are found one after another.
use Rattle.std.specs.Prelude.{List, Bool, true, Option, Some, None, if◌then◌else◌}
use Rattle.std.specs.List.{fold}
use Rattle.std.specs.Ordering.{is_lt}
use Rattle.nm_types.specs.Path.{PathStep, path_cmp}

-- a path stands before what was found so far
abbrev pub is_first : List PathStep → Option (List PathStep) → Bool
is_first path None = true
is_first path (Some other) = is_lt (path_cmp path other)

-- the lesser of what was found so far and one path more
abbrev pub with_path : Option (List PathStep) → List PathStep → Option (List PathStep)
with_path found path = if is_first path found then Some path else found

-- the least of what was found so far and of some paths more
abbrev pub least_with : Option (List PathStep) → List (List PathStep) → Option (List PathStep)
least_with found paths = fold with_path found paths
