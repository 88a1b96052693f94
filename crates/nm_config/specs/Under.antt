-- What is at or below a node of a configuration.
use Rattle.std.specs.Prelude.{◌≡◌, ◌++◌, Bool, true, false, cond, not, ◌&&◌, ◌||◌, nat_eq, List, [], ◌∷◌, filter}
use Rattle.std.specs.Ordering.{eq_by_cmp}
use Rattle.std.specs.Cmp.Lexicographic.{pointwise}
use Rattle.std.specs.FinMap.{remove, retain_keys, keys}
use Rattle.std.specs.List.{list_any}
use Rattle.nm_types.specs.declared.value.Value.{Value}
use Rattle.nm_types.specs.Path.{Choice, whole, keys as by_keys, entry as by_value, choice_cmp, PathStep, step_cmp}
use Rattle.nm_config.specs.Rows.{Rows}

-- a list or a leaf-list as a whole, or a node that is neither
abbrev pub is_whole : Choice → Bool
is_whole whole = true
is_whole (by_keys values) = false
is_whole (by_value value) = false

-- a choice takes another in: a list or a leaf-list as a whole all its entries, and each choice itself (RFC 7950 section 7.8)
abbrev pub takes_in : Choice → Choice → Bool
takes_in chosen other = is_whole chosen || eq_by_cmp choice_cmp chosen other

-- a step stands for another: they go to one node of the schema, and what the first chooses takes in what the other chooses (this project's own)
abbrev pub stands_for : PathStep → PathStep → Bool
stands_for step other = pointwise nat_eq step.module other.module && pointwise nat_eq step.name other.name && takes_in step.chosen other.chosen

-- a step of a node's path goes along a step of another path: it is that step, and the last step of the node's path stands for that step (this project's own)
abbrev pub goes_along : Bool → PathStep → PathStep → Bool
goes_along is_last step other = cond is_last (stands_for step other) (eq_by_cmp step_cmp step other)

-- there is no step
abbrev pub is_end : List PathStep → Bool
is_end [] = true
is_end (step ∷ steps) = false

-- a path is at or below a node: it begins with the steps of the node's path, where a list as a whole in the last of these
-- stands for each of its entries (this project's own)
unfoldable pub is_under : List PathStep → List PathStep → Bool
is_under [] path = true
is_under (step ∷ steps) [] = false
is_under (step ∷ steps) (other ∷ path) = goes_along (is_end steps) step other && is_under steps path

-- whether the path of a row is at or below a node
abbrev pub row_is_under : List PathStep → List PathStep × Value → Bool
row_is_under node row = is_under node row.0

-- whether the path of a row is not at or below a node
abbrev pub row_is_outside : List PathStep → List PathStep × Value → Bool
row_is_outside node row = not (is_under node row.0)

-- of some rows those at or below a node
abbrev pub rows_under : List PathStep → List (List PathStep × Value) → List (List PathStep × Value)
rows_under node = filter (row_is_under node)

-- of some rows those that aren't at or below a node
abbrev pub rows_outside : List PathStep → List (List PathStep × Value) → List (List PathStep × Value)
rows_outside node = filter (row_is_outside node)

-- a configuration without the rows at the paths of some rows
abbrev pub without_rows : Rows → List (List PathStep × Value) → Rows
without_rows rows [] = rows
without_rows rows (gone ∷ others) = without_rows (remove rows gone.0) others

-- some row is at or below a node
abbrev pub has_under : Rows → List PathStep → Bool
has_under rows node = list_any (is_under node) (keys rows)

-- the rows at or below a node
abbrev pub under : Rows → List PathStep → Rows
under rows node = retain_keys rows (is_under node)

-- a configuration without the rows at or below a node
abbrev pub without_under : Rows → List PathStep → Rows
without_under rows node = retain_keys rows (λ path. not (is_under node path))

-- a path begins with the steps of another (this project's own)
pub record Continues (node path : List PathStep) : Type 0 where
  pub rest : List PathStep
  pub begins : path ≡ node ++ rest

-- a node is a list as a whole, and a path begins with the steps of one of its entries (this project's own)
pub record EntersList (node path : List PathStep) : Type 0 where
  pub above : List PathStep
  pub list : PathStep
  pub entry : PathStep
  pub rest : List PathStep
  pub ends : node ≡ above ++ list ∷ []
  pub as_whole : list.chosen ≡ whole
  pub same_module : list.module ≡ entry.module
  pub same_name : list.name ≡ entry.name
  pub begins : path ≡ above ++ entry ∷ rest
