-- Values of the targets of leafrefs, kept by the places that they are reached from.
use Rattle.std.specs.Prelude.{ℕ, pos, List, [], ◌∷◌, take, length, Option, Some, None, nat_lt, if◌then◌else◌}
use Rattle.std.specs.List.{fold}
use Rattle.std.specs.FinMap.{insert}
use Rattle.nm_types.specs.declared.value.Value.{Value}
use Rattle.nm_types.specs.declared.value.Value.TheVariants.{Int, Present}
use Rattle.nm_types.specs.Path.{PathStep, whole}
use Rattle.nm_config.specs.Rows.{Rows}
use Rattle.nm_config.specs.Under.{is_whole}
use Rattle.nm_validate_rules.specs.Values.{as_list}
use Rattle.nm_validate_rules.specs.Violated.{last_chosen}
use Rattle.nm_validate_places.specs.Leafs.{step_of}

-- the path by which value v of node x is kept for a place: the value comes first, so that two paths mostly differ there
abbrev pub kept_at : List PathStep → ℕ → Value → List PathStep
kept_at place x v = step_of (Int (pos x) ∷ v ∷ []) ∷ place

-- the path that tells that the values of node x are kept for the places of d steps
abbrev pub mark_of : ℕ → ℕ → List PathStep
mark_of x d = step_of (Int (pos x) ∷ Int (pos d) ∷ Present ∷ []) ∷ []

-- the same step without what it chooses
abbrev pub as_whole : PathStep → PathStep
as_whole s = record { «module» = s.«module»; name = s.name; chosen = whole }

-- value v of node x is kept for a place and, where that is an entry, for its list as a whole
abbrev pub with_kept : ℕ → Value → Rows → List PathStep → Rows
with_kept x v kept place =
    if is_whole (last_chosen place)
    then insert kept (kept_at place x v) Present
    else insert (insert kept (kept_at place x v) Present) (kept_at (as_list place) x v) Present

-- the value that node x has at a path, if there is one, is kept for the place of d steps above it
abbrev pub with_value : ℕ → ℕ → Rows → List PathStep → Option Value → Rows
with_value x d kept path None = kept
with_value x d kept path (Some v) = if nat_lt (length path) d then kept else with_kept x v kept (take d path)

-- the values that node x has at some paths are kept, one after another
abbrev pub with_values : ℕ → ℕ → (List PathStep → Option Value) → Rows → List (List PathStep) → Rows
with_values x d value kept paths = fold (λ so_far path. with_value x d so_far path (value path)) kept paths
