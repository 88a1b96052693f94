-- What holds of every scenario that was read (this project's own): no count is outside its limits, and no number of a change set, a
-- device, an operator, a turn, an edit or a selection; and operators open sessions of their own users.
use Rattle.std.specs.Prelude.{◌≡◌, ℕ, ◌-◌, ◌^◌, ◌≤◌, ◌<◌, List, [], ◌∷◌, length, map, slice_get, true, false, not, ◌&&◌, nat_le, Some, None}
use Rattle.std.specs.Str.{bytes_eq}
use Rattle.std.specs.List.{All, sum_by}
use Rattle.std.specs.FinMap.{empty, len}
use Rattle.nm_base.specs.Words.{manager}
use Rattle.nm_flat.specs.declared.flat.FlatEdit.{FlatEdit}
use Rattle.nm_proto.specs.declared.message.Request.{Request}
use Rattle.nm_proto.specs.declared.message.Request.TheVariants.{OpenSession, PartialLock, Edit}
use Rattle.nm_proto.specs.declared.plan.Event.{Event}
use Rattle.nm_proto.specs.declared.plan.Event.TheVariants.{Foreign}
use Rattle.nm_proto.specs.declared.plan.ChangePlan.{ChangePlan}
use Rattle.nm_proto.specs.declared.plan.PlannedEdit.{PlannedEdit}
use Rattle.nm_flat.specs.Flat.{FlatState, flat_violation}
use Rattle.nm_schema_tree.specs.Nodes.{SchemaTree}
use Rattle.nm_path.specs.Sound.{IsSound}
use Rattle.nm_config.specs.Rows.{Rows}
use Rattle.nm_schema.specs.Marker.{HasMarker}
use Rattle.nm_validate_rules.specs.Standing.{StandsIn}
use Rattle.nm_validate.specs.Told.{violation_told}
use Rattle.nm_edit.specs.declared.edit.EditNode.{EditNode}
use Rattle.nm_edit.specs.EditOf.{IsEditOf}
use Rattle.nm_scenario_events.specs.declared.arguments.Counts.{Counts}
use Rattle.nm_scenario_events.specs.Limits.{device_limit, change_limit, operator_limit, event_limit}
use Rattle.nm_scenario_events.specs.Kept.{IsWithin, EventKeeps, weight}
use Rattle.nm_scenario.specs.declared.scenario.Body.{Body}
use Rattle.nm_scenario.specs.declared.scenario.Body.TheVariants.{Flat, Yang}
use Rattle.nm_scenario.specs.declared.scenario.Scenario.{Scenario}
use Rattle.nm_scenario.specs.Flat.{row_limit, node_limit}
use Rattle.nm_scenario.specs.Head.{module_limit}
use Rattle.nm_scenario.specs.Operators.{user_limit}
use Rattle.nm_scenario.specs.Yang.{holds_marks}

-- ---- contents

-- a running configuration of flat contents: valid, not marked, and not too large
pub record StateKeeps (state : FlatState) : Type 0 where
  pub cells : len state.cells ≤ row_limit
  pub unmarked : state.marks ≡ empty
  pub valid : flat_violation state ≡ None

-- an edit of flat contents isn't too large
abbrev pub EditKeeps : FlatEdit → Type 0
EditKeeps edit = len edit.changes ≤ node_limit

-- a running configuration of YANG data: valid, without marks, and not too large
pub record DataKeeps (tree : SchemaTree) (rows : Rows) : Type 0 where
  pub stands : StandsIn tree rows
  pub rows_few : len rows ≤ row_limit
  pub unmarked : holds_marks rows ≡ false
  pub valid : violation_told tree rows ≡ None

-- a tree that modules give (RFC 7950 section 3)
pub record IsGiven (tree : SchemaTree) : Type 0 where
  pub sound : IsSound tree.nodes
  pub marker : HasMarker tree

-- YANG contents: their modules, running configurations and edits
pub record DataAreKept (modules : List (List ℕ)) (tree : SchemaTree) (devices : List Rows) (edits : List (List EditNode)) : Type 0 where
  pub module_count : length modules ≤ module_limit
  pub given : IsGiven tree
  pub running : All (DataKeeps tree) devices
  pub edited : All (IsEditOf tree) edits
  pub few : All (λ nodes. length nodes ≤ node_limit) edits

-- how many devices there are
abbrev pub devices_in : Body → ℕ
devices_in (Flat devices edits) = length devices
devices_in (Yang modules tree devices edits) = length devices

-- and how many edits
abbrev pub edits_in : Body → ℕ
edits_in (Flat devices edits) = length edits
edits_in (Yang modules tree devices edits) = length edits

-- each running configuration and each edit of a scenario is within its limits, and fits its modules
abbrev pub BodyKeeps : Body → Type 0
BodyKeeps (Flat devices edits) = All StateKeeps devices × All EditKeeps edits
BodyKeeps (Yang modules tree devices edits) = DataAreKept modules tree devices edits

-- ---- change sets

-- numbers ascend, above one and up to another
abbrev pub Ascend : ℕ → ℕ → List ℕ → Type 0
Ascend low high [] = Unit {0}
Ascend low high (n ∷ ns) = (low < n) × (n ≤ high) × Ascend n high ns

-- the device that an edit of a change set is for
abbrev pub device_of_plan : PlannedEdit → ℕ
device_of_plan edit = edit.device

-- a change set, in a scenario of so many devices
pub record ChangeKeeps (devices : ℕ) (change : ChangePlan) : Type 0 where
  pub timeout : IsWithin 1 (2 ^ 32 - 1) change.timeout
  pub edits : 1 ≤ length change.edits
  pub ascending : Ascend 0 devices (map device_of_plan change.edits)

-- ---- the whole

-- a user's name that may stand in a scenario: one to 64 bytes, and not the manager's
abbrev pub UserKeeps : List ℕ → Type 0
UserKeeps name = (not (bytes_eq name manager) && (nat_le 1 (length name) && nat_le (length name) user_limit)) ≡ true

-- a request of an operator, of those with these users, opens a session of that operator's user alone
abbrev pub IsOwnOpening : List (List ℕ) → ℕ → Request → Type 0
IsOwnOpening users operator (OpenSession user) = slice_get users (operator - 1) ≡ Some user
IsOwnOpening users operator _ = Unit {0}

-- so does an event, if an operator asks in it
abbrev pub OpensOwn : List (List ℕ) → Event → Type 0
OpensOwn users (Foreign operator device request) = IsOwnOpening users operator request
OpensOwn users _ = Unit {0}

-- a request names an edit and a selection that there are, if it names any
abbrev pub RequestNames : ℕ → ℕ → Request → Type 0
RequestNames edits selects (Edit edit operation marks) = edit.0 < edits
RequestNames edits selects (PartialLock select) = select.0 < selects
RequestNames edits selects _ = Unit {0}

-- so does an event, if an operator asks in it
abbrev pub EventNames : ℕ → ℕ → Event → Type 0
EventNames edits selects (Foreign operator device request) = RequestNames edits selects request
EventNames edits selects _ = Unit {0}

-- so do the edits of a change set
abbrev pub PlanNames : ℕ → ChangePlan → Type 0
PlanNames edits change = All (λ planned. planned.edit.0 < edits) change.edits

-- how many change sets, devices and operators there are
abbrev pub counts_in : Scenario → Counts
counts_in scenario =
    record { changes = length scenario.changes; devices = devices_in scenario.body; operators = length scenario.operators }

-- what holds of every scenario that was read: each count is within its limit, and each number names something that is there
pub record ScenarioKeeps (scenario : Scenario) : Type 0 where
  pub body : BodyKeeps scenario.body
  pub devices : IsWithin 1 device_limit (devices_in scenario.body)
  pub change_sets : length scenario.changes ≤ change_limit
  pub changes : All (ChangeKeeps (devices_in scenario.body)) scenario.changes
  pub operator_count : length scenario.operators ≤ operator_limit
  pub operators : All UserKeeps scenario.operators
  pub event_count : sum_by weight scenario.events ≤ event_limit
  pub events : All (EventKeeps (counts_in scenario)) scenario.events
  pub openings : All (OpensOwn scenario.operators) scenario.events
  pub planned : All (PlanNames (edits_in scenario.body)) scenario.changes
  pub named : All (EventNames (edits_in scenario.body) (length scenario.selects)) scenario.events
