-- The places that rows stand below.
use Rattle.std.specs.Prelude.{ℕ, suc, ◌-◌, List, [], ◌∷◌, ◌++◌, length, map, take, if◌then◌else◌}
use Rattle.std.specs.List.{range_with_len}
use Rattle.std.specs.Ordering.{eq_by_cmp}
use Rattle.nm_types.specs.Path.{PathStep, step_cmp}

-- how many of the places that a path stands below, from the top down, another path stands below too
abbrev pub shared_places : List PathStep → List PathStep → ℕ
shared_places [] other = 0
shared_places (s ∷ ss) [] = 0
shared_places (s ∷ ss) (r ∷ rs) = if eq_by_cmp step_cmp s r then suc (shared_places ss rs) else 1

-- the places that a path stands below, from the top down, but for the first so many
abbrev pub places_from : ℕ → List PathStep → List (List PathStep)
places_from n path = map (λ k. take k path) (range_with_len n (length path - n))

-- the places that these paths stand below, each where the path before it doesn't stand below it
abbrev pub places_after : List PathStep → List (List PathStep) → List (List PathStep)
places_after before [] = []
places_after before (path ∷ paths) = places_from (shared_places before path) path ++ places_after path paths
