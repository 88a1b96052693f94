-- Findings that are noted one after another.
use Rattle.std.specs.Prelude.{◌≡◌, ℕ, List, [], ◌∷◌, ◌++◌, fold, Option, Some, None, is_some, if◌then◌else◌}
use Rattle.std.specs.FinMap.{insert, get}
use Rattle.nm_types.specs.Path.{PathStep}
use Rattle.nm_types.specs.declared.value.Value.{Value}
use Rattle.serde_json.specs.Data.{Members}
use Rattle.nm_schema_tree.specs.Nodes.{SchemaTree}
use Rattle.nm_config.specs.Rows.{Rows}
use Rattle.nm_json.specs.declared.fault.JsonKind.TheVariants.{Repeated}
use Rattle.nm_json.specs.declared.fault.Fault.{Fault}
use Rattle.nm_json.specs.Places.{lesser}
use Rattle.nm_json.specs.Findings.{Finding, row, bad, fault_at, members_found}
use Rattle.nm_json.specs.Whole.{if_repeated}

-- the rows that were found, in their order, and the least of the faults that were
pub record Gathered : Type 0 where
  pub rows : List (List PathStep × Value)
  pub least : Option Fault

-- a finding more: a row behind the others, or another fault
abbrev pub noted : Gathered → Finding → Gathered
noted g (row path value) = record { rows = g.rows ++ (path, value) ∷ []; least = g.least }
noted g (bad fault) = record { rows = g.rows; least = lesser g.least fault }

-- no rows and no fault
abbrev pub nothing : Gathered
nothing = record { rows = []; least = None }

-- findings more, one after another
unfoldable pub gathered : Gathered → List Finding → Gathered
gathered g findings = fold noted g findings

-- the least fault once there is a row for a path: a second one is repeated
abbrev pub with_row : Rows → Option Fault → List PathStep → Option Fault
with_row rows least path = if is_some (get rows path) then lesser least (fault_at path Repeated) else least

-- the faults of rows that are put behind others, one after another: that there is one with its path before it
abbrev pub repeated : Rows → List (List PathStep × Value) → List Fault
repeated rows [] = []
repeated rows (r ∷ rs) = if_repeated (is_some (get rows r.0)) r.0 (repeated (insert rows r.0 r.1) rs)

-- the whole is reached once the members of an object are gone through at a path, if there is one, and else it is reached
abbrev pub GoesOn : SchemaTree → Option ℕ → Members → Gathered → Option (List PathStep) → Gathered → Type 0
GoesOn t within ms g None all = g ≡ all
GoesOn t within ms g (Some path) all = gathered g (members_found t path within ms ms) ≡ all
