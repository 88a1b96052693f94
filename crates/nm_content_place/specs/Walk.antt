-- The rows at or below a node, one after another (this project's own).
use Rattle.std.specs.Prelude.{◌≡◌, List, [], ◌∷◌, true, false, Option, Some, None, filter, map as each}
use Rattle.std.specs.Ordering.{is_lt}
use Rattle.std.specs.FinMap.{entries}
use Rattle.nm_types.specs.Path.{PathStep, path_cmp}
use Rattle.nm_config.specs.Rows.{Rows}
use Rattle.nm_config.specs.Under.{is_under}

-- the paths of the rows at or below a node that stand after a path
abbrev pub below_after : Rows → List PathStep → List PathStep → List (List PathStep)
below_after rows node passed = filter (is_under node) (each (λ e. e.0) (filter (λ e. is_lt (path_cmp passed e.0)) (entries rows)))

-- those after a path begin with this one and go on with those after it; or there is none
pub record GoesOnWith (rows : Rows) (node passed next : List PathStep) : Type 0 where
  pub first : below_after rows node passed ≡ next ∷ below_after rows node next
  pub is_below : is_under node next ≡ true
  pub behind : is_lt (path_cmp next node) ≡ false

-- rows at or below a node go on with this one after a path, or there are none after it
abbrev pub GoesOn : Rows → List PathStep → List PathStep → Option (List PathStep) → Type 0
GoesOn rows node passed None = below_after rows node passed ≡ []
GoesOn rows node passed (Some next) = GoesOnWith rows node passed next
