-- A device of a run with how far each change set has come there, who may ask what of it, and what a coordinator's calls are
-- acknowledged by (this project's own).
use Rattle.std.specs.Prelude.{ℕ, List, Bool, true, false, not, ◌&&◌, Option, Some, None, if◌then◌else◌}
use Rattle.nm_proto.specs.declared.message.Request.{Request}
use Rattle.nm_proto.specs.declared.message.Reply.{Reply}
use Rattle.nm_proto.specs.declared.message.Reply.TheVariants.{Done}
use Rattle.nm_proto.specs.declared.plan.ChangePlan.{ChangePlan}
use Rattle.nm_device.specs.Device.{is_manager}
use Rattle.nm_device.specs.Table.{opening_user}
use Rattle.nm_chronicle.specs.Shares.{SlotState, slot_acked}
use Rattle.nm_chronicle.specs.Phases.{PhasesState}
use Rattle.nm_chronicle.specs.Turn.{commits_for, allows}
use Rattle.nm_cells.specs.declared.asked.Asked.{Asked}
use Rattle.nm_cells.specs.declared.asked.Asked.TheVariants.{Answered, Broken}
use Rattle.nm_cells.specs.declared.pass.PassOwner.{PassOwner}
use Rattle.nm_cells.specs.declared.pass.PassOwner.TheVariants.{Coordinator, Operator}
use Rattle.nm_cells.specs.Kept.{KeptState}

-- a device with its history and faults, and the phase of each change set there
pub record CellView (Config Node : Type 0) : Type 0 where
  pub kept : KeptState Config Node
  pub phases : PhasesState

-- ---- whose requests

-- an operator may ask anything but for a session of the manager
abbrev pub may_operate : PassOwner → Request → Bool
may_operate (Coordinator change) request = false
may_operate (Operator number) request = not (is_manager (opening_user request))

-- the coordinator of a change set may ask this of a device now, by its slot
abbrev pub is_in_turn : List ChangePlan → PassOwner → SlotState → ℕ → Request → Bool
is_in_turn changes (Coordinator change) slot device request = allows changes change device slot request
is_in_turn changes (Operator number) slot device request = false

-- ---- acknowledging

-- it was answered Done
abbrev pub is_done : Reply → Bool
is_done Done = true
is_done _ = false

-- a call was answered Done
abbrev pub is_answered_done : Asked → Bool
is_answered_done (Answered position reply) = is_done reply
is_answered_done (Broken position) = false

-- the change set whose coordinator learns that its confirmed commit was done
abbrev pub acknowledged : PassOwner → Request → Asked → Option ℕ
acknowledged (Coordinator change) request asked = if commits_for change request && is_answered_done asked then Some change else None
acknowledged (Operator number) request asked = None

-- the coordinator's slot after a call: an acknowledgement counts
abbrev pub slot_after : SlotState → Option ℕ → SlotState
slot_after slot None = slot
slot_after slot (Some change) = slot_acked slot
