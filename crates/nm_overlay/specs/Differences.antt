-- What a configuration changes of another one, which it lies over.
use Rattle.std.specs.Prelude.{Bool, true, false, cond, not, List, [], ◌∷◌, ◌++◌, Option, Some, None, map as each, filter, refl}
use Rattle.std.specs.Coded.{Coded, coded×, code_by}
use Rattle.std.specs.FinMap.{FinMap, get, insert, remove, entries, keys, from_entries}
use Rattle.nm_types.specs.Path.{PathStep, path_cmp}
use Rattle.nm_types.specs.Value.{is_same_value}
use Rattle.nm_types.specs.declared.value.Value.{Value}
use Rattle.nm_config.specs.Rows.{Rows}

-- two configurations: the one that lies below, and the rows that are seen
pub record Overlaid : Type 0 where
  pub base : Rows
  pub rows : Rows

-- how a proof tells overlaid configurations apart: by what lies below and what is seen
abbrev pub coded_overlaid : Coded Rows → Coded Overlaid
coded_overlaid c = code_by (Rows × Rows) (coded× c c) (λ o. (o.base, o.rows)) (λ p. record { base = p.0; rows = p.1 }) (λ _. refl)

-- at paths what stands there: a value, or None where no row stands
abbrev pub Changes : Type 0
Changes = FinMap path_cmp (Option Value)

-- what stands at a path isn't what stood there: another value, or a row in one case alone
abbrev pub differs : Option Value → Option Value → Bool
differs (Some before) (Some after) = not (is_same_value before after)
differs (Some before) None = true
differs None (Some after) = true
differs None None = false

-- what is said of a path: where what stands there differs, what that is now
abbrev pub difference_at : Option Value → Option Value → Option (Option Value)
difference_at before after = cond (differs before after) (Some after) None

-- at each path of either of two configurations at which they differ, what stands there in the second (this project's own)
abbrev pub differences : Rows → Rows → Changes
differences base rows =
    from_entries (each (λ path. (path, get rows path)) (filter (λ path. differs (get base path) (get rows path)) (keys base ++ keys rows)))

-- a configuration with what is to stand at a path
abbrev pub with_change : Rows → List PathStep → Option Value → Rows
with_change rows path None = remove rows path
with_change rows path (Some value) = insert rows path value

-- a configuration with what is to stand at some paths
abbrev pub with_changes : Rows → List (List PathStep × Option Value) → Rows
with_changes rows [] = rows
with_changes rows (change ∷ changes) = with_change (with_changes rows changes) change.0 change.1

-- a configuration with changes
unfoldable pub overridden : Rows → Changes → Rows
overridden rows changes = with_changes rows (entries changes)

-- each change at a path is one: it differs from what stands there
abbrev pub changes_at : Option (Option Value) → Option Value → Bool
changes_at None before = true
changes_at (Some after) before = differs before after
