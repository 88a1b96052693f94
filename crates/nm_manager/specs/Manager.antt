-- The manager's step (this project's own): a function of the journal's entries and of what is kept of each change set. Change set
-- c stands at place c - 1.
use Rattle.std.specs.Prelude.{position, IfSome, ◌*◌, ◌==◌, map, ◌≡◌, ℕ, suc, ◌-◌, List, [], ◌∷◌, ◌++◌, slice_get, slice_set, Bool, true, false, not, ◌&&◌, Option, Some, None, if◌then◌else◌}
use Rattle.nm_proto.specs.declared.ask.Ask.{Ask}
use Rattle.nm_proto.specs.declared.message.Reply.{Reply}
use Rattle.nm_proto.specs.declared.journal.Verdict.{Verdict}
use Rattle.nm_proto.specs.declared.journal.Entry.{Entry}
use Rattle.nm_proto.specs.declared.journal.Entry.TheVariants.{Started, Decided, Ended}
use Rattle.nm_proto.specs.declared.plan.ChangePlan.{ChangePlan}
use Rattle.nm_proto.specs.Plan.{devices_in}
use Rattle.nm_journal.specs.Entries.{may_follow}
use Rattle.nm_journal.specs.declared.fault.JournalFault.{JournalFault}
use Rattle.nm_journal.specs.declared.fault.JournalFault.TheVariants as journal
use Rattle.nm_manager.specs.declared.action.TurnFault.{TurnFault}
use Rattle.nm_manager.specs.declared.action.TurnFault.TheVariants as fault
use Rattle.nm_journal.specs.Fits.{JournalState, ReadsAs, ReadsWithOrWithout}
use Rattle.nm_recovery.specs.Recovery.{is_started, is_ended_in, verdict_in}
use Rattle.nm_decider.specs.declared.course.NextAction.{NextAction}
use Rattle.nm_decider.specs.declared.course.NextAction.TheVariants as next
use Rattle.nm_decider.specs.Course.{CourseState, new_course, recovered_course, next_action}
use Rattle.nm_wire.specs.Wire.{WireState, no_links}
use Rattle.nm_manager.specs.declared.action.Action.{Action}
use Rattle.nm_manager.specs.declared.action.Action.TheVariants as action
use Rattle.nm_manager.specs.Queues.{is_ready_in}
use Rattle.nm_manager.specs.Slot.{SideState, SlotState, PairStep, SlotStep, fresh_slot, restarted_slot, wires_on, told_wire, lost_wire, side_at, wire_of_side}
use Rattle.nm_manager.specs.Slot.{on_side, sends_pair, renews_pair, receives_pair, breaks_pair, decided, lost_memory, cut_off, to_commit}

-- the journal's entries, and what is kept of each change set
pub record ManagerState : Type 0 where
  pub entries : List Entry
  pub slots : List SlotState

-- a manager: the change sets that it was given, the entry at which its journal stopped, and whether it has failed
pub record Managing : Type 0 where
  pub plans : List ChangePlan
  pub failed : Option Entry
  pub has_failed : Bool
  pub state : ManagerState

-- a manager in another state
abbrev pub with_state : Managing → ManagerState → Managing
with_state manager state = record manager { state = state }

-- what its journal holds
abbrev pub journal_of : Managing → JournalState
journal_of manager = record { entries = manager.state.entries; failed = manager.failed }

-- the disk failed at an entry
abbrev pub failed_at : Managing → Entry → Managing
failed_at manager entry = record manager { failed = Some entry; has_failed = true }

-- ---- the beginning

-- what is kept of these change sets, from a number on, before any is submitted
abbrev pub slots_from : ℕ → List ChangePlan → List SlotState
slots_from change [] = []
slots_from change (plan ∷ plans) = fresh_slot change (devices_in plan.edits) ∷ slots_from (suc change) plans

-- nothing was submitted
abbrev pub fresh_manager : List ChangePlan → Managing
fresh_manager plans = record { plans = plans; failed = None; has_failed = false; state = record { entries = []; slots = slots_from 1 plans } }

-- ---- what it is made of

-- an action, and what stands after it
pub record Step : Type 0 where
  pub action : Action
  pub state : ManagerState

-- what is kept of a change set
abbrev pub slot_at : ManagerState → ℕ → Option SlotState
slot_at state change = slice_get state.slots (change - 1)

-- other is kept of a change set
abbrev pub with_slot : ManagerState → ℕ → SlotState → ManagerState
with_slot state change slot = record state { slots = slice_set state.slots (change - 1) slot }

-- the journal has an entry more
abbrev pub with_entry : ManagerState → Entry → ManagerState
with_entry state entry = record state { entries = state.entries ++ entry ∷ [] }

-- nothing is done
abbrev pub idle : ManagerState → Step
idle state = record { action = action.Idle; state = state }

-- a step of one change set
abbrev pub with_step : ManagerState → ℕ → SlotStep → Step
with_step state change step = record { action = step.action; state = with_slot state change step.slot }

-- a step for a device of a change set, where it is there
abbrev pub on_slot : (CourseState → SideState → PairStep) → ManagerState → ℕ → ℕ → Option SlotState → Step
on_slot step state change device None = idle state
on_slot step state change device (Some slot) = with_step state change (on_side step slot device (side_at slot device))

-- an entry comes into the journal, where it may come next, and this is what stands then
abbrev pub enters : ManagerState → Entry → Action → ManagerState → Step
enters state entry what now = if may_follow state.entries entry then record { action = what; state = now } else idle state

-- ---- a change set is submitted

-- the entry that starts a change set
abbrev pub start_of : ℕ → ChangePlan → Entry
start_of change plan = Started change (record { 0 = devices_in plan.edits }) (Some plan.timeout)

-- the entry that starts a change set, where it has a plan
abbrev pub start_by : ℕ → Option ChangePlan → Option Entry
start_by change None = None
start_by change (Some plan) = Some (start_of change plan)

-- the entry that a submission writes
abbrev pub start_at : List ChangePlan → ℕ → Option Entry
start_at plans change = start_by change (slice_get plans (change - 1))

-- a change set comes into the journal by this entry
abbrev pub submits : ManagerState → Entry → Step
submits state entry = enters state entry action.Started (with_entry state entry)

-- the same by the plan, where there is one
abbrev pub submitted_by : ManagerState → ℕ → Option ChangePlan → Step
submitted_by state change None = idle state
submitted_by state change (Some plan) = submits state (start_of change plan)

-- the change set comes into the journal, once
abbrev pub submitted : List ChangePlan → ManagerState → ℕ → Step
submitted plans state change = submitted_by state change (slice_get plans (change - 1))

-- ---- one action for a change set

-- this is asked of a device
abbrev pub sent_by : ManagerState → ℕ → Option ChangePlan → Option SlotState → ℕ → Ask → Step
sent_by state change None found device what = idle state
sent_by state change (Some plan) found device what = on_slot (sends_pair plan state.entries device what) state change device found

-- the verdict comes into the journal, and then to the course
abbrev pub decided_by : ManagerState → ℕ → Verdict → Option SlotState → Step
decided_by state change verdict None = idle state
decided_by state change verdict (Some slot) =
    enters state (Decided change verdict) (action.Decided verdict) (with_slot (with_entry state (Decided change verdict)) change (decided slot verdict))

-- the change set ends
abbrev pub finishes : ManagerState → Entry → Step
finishes state entry = enters state entry action.Ended (with_entry state entry)

-- this action is done
abbrev pub acts : List ChangePlan → ManagerState → ℕ → NextAction → Step
acts plans state change next.Wait = idle state
acts plans state change (next.Send device what) = sent_by state change (slice_get plans (change - 1)) (slot_at state change) device what
acts plans state change (next.Decide verdict) = decided_by state change verdict (slot_at state change)
acts plans state change (next.Finish kept) = finishes state (Ended change kept)

-- one action for a change set, where something is kept of it
abbrev pub turned_by : List ChangePlan → ManagerState → ℕ → Option SlotState → Step
turned_by plans state change None = idle state
turned_by plans state change (Some slot) = acts plans state change (next_action slot.course)

-- one action for a change set, where it is ready
abbrev pub turned : List ChangePlan → ManagerState → ℕ → Step
turned plans state change = if is_ready_in state.entries change then turned_by plans state change (slot_at state change) else idle state

-- the entry that an action writes, where it writes one
abbrev pub entry_of : ℕ → NextAction → Option Entry
entry_of change next.Wait = None
entry_of change (next.Send device what) = None
entry_of change (next.Decide verdict) = Some (Decided change verdict)
entry_of change (next.Finish kept) = Some (Ended change kept)

-- the entry that the next action writes, where something is kept
abbrev pub entry_by : ℕ → Option SlotState → Option Entry
entry_by change None = None
entry_by change (Some slot) = entry_of change (next_action slot.course)

-- the entry that the next action of a change set writes
abbrev pub entry_next : ManagerState → ℕ → Option Entry
entry_next state change = entry_by change (slot_at state change)

-- the entry that a turn writes, where it writes one
abbrev pub entry_turned : ManagerState → ℕ → Option Entry
entry_turned state change = if is_ready_in state.entries change then entry_next state change else None

-- the disk failed where an entry was written
abbrev pub FailsAt : Option Entry → Managing → Managing → Type 0
FailsAt None old new = ⊥
FailsAt (Some entry) old new = new ≡ failed_at old entry

-- bytes that read as these entries, or as these with the one that was written, where one was
abbrev pub MayRead : List Entry → Option Entry → List ℕ → Type 0
MayRead entries None image = ReadsAs entries image
MayRead entries (Some entry) image = ReadsWithOrWithout entries entry image

-- ---- what comes to one change set

-- a reply is handled
abbrev pub received : ManagerState → ℕ → ℕ → ℕ → ℕ → Step
received state change device link number = on_slot (receives_pair device link number) state change device (slot_at state change)

-- a link breaks
abbrev pub broken : ManagerState → ℕ → ℕ → Step
broken state change device = on_slot (breaks_pair device) state change device (slot_at state change)

-- what is known is lost, where there is a plan and something is kept
abbrev pub forgotten_by : ManagerState → ℕ → Option ChangePlan → Option SlotState → Step
forgotten_by state change None slot = idle state
forgotten_by state change (Some plan) None = idle state
forgotten_by state change (Some plan) (Some slot) = record {
  action = action.Forgot;
  state = with_slot state change (lost_memory slot (devices_in plan.edits) (verdict_in change state.entries));
}

-- what is known of a change set that was submitted and isn't ended is lost
abbrev pub forgotten : List ChangePlan → ManagerState → ℕ → Step
forgotten plans state change =
    if is_started change state.entries && not (is_ended_in change state.entries)
    then forgotten_by state change (slice_get plans (change - 1)) (slot_at state change) else idle state

-- a timer is set anew, where there is a plan and something is kept
abbrev pub renewed_by : ManagerState → ℕ → ℕ → Option ChangePlan → Option SlotState → Step
renewed_by state change device None found = idle state
renewed_by state change device (Some plan) found = on_slot (renews_pair plan state.entries device) state change device found

-- the timer of a pending commit is set anew
abbrev pub renewed : List ChangePlan → ManagerState → ℕ → ℕ → Step
renewed plans state change device =
    if is_ready_in state.entries change then renewed_by state change device (slice_get plans (change - 1)) (slot_at state change) else idle state

-- ---- links

-- the links to a device, where something is kept
abbrev pub wire_of : ℕ → Option SlotState → WireState
wire_of device None = no_links
wire_of device (Some slot) = wire_of_side (side_at slot device)

-- the links of a change set to a device
abbrev pub wire_in : ManagerState → ℕ → ℕ → WireState
wire_in state change device = wire_of device (slot_at state change)

-- the links to a device are others, where something is kept
abbrev pub wires_in : ManagerState → ℕ → ℕ → (WireState → WireState) → Option SlotState → ManagerState
wires_in state change device happens None = state
wires_in state change device happens (Some slot) = with_slot state change (wires_on happens slot device (side_at slot device))

-- the device answers what a link has outstanding
abbrev pub told_on : ManagerState → ℕ → ℕ → ℕ → Reply → ManagerState
told_on state change device link reply = wires_in state change device (told_wire link reply) (slot_at state change)

-- the device's side of a link ends
abbrev pub lost_on : ManagerState → ℕ → ℕ → ℕ → ManagerState
lost_on state change device link = wires_in state change device (lost_wire link) (slot_at state change)

-- a device restarts: its sides of all links end, those of each change set
abbrev pub restarted_on : ManagerState → ℕ → ManagerState
restarted_on state device = record state { slots = map (restarted_slot device) state.slots }

-- ---- the manager starts anew

-- how a change set goes on where all memory is lost: from its verdict in the journal where it was submitted and isn't ended, and
-- else from the beginning
abbrev pub course_after : List Entry → ℕ → ℕ → CourseState
course_after entries change devices =
    if is_started change entries && not (is_ended_in change entries)
    then recovered_course change devices (verdict_in change entries) else new_course change devices

-- what is kept of a change set after a crash: its course by the journal, and no current link
abbrev pub starts_anew : List Entry → ℕ → ℕ → SlotState → SlotState
starts_anew entries change devices slot = record {
  course = course_after entries change devices;
  sides = map (cut_off (to_commit (verdict_in change entries))) slot.sides;
}

-- the same of all change sets, from a number on
abbrev pub start_anew : List Entry → ℕ → List ChangePlan → List SlotState → List SlotState
start_anew entries change [] slots = slots
start_anew entries change (plan ∷ plans) [] = []
start_anew entries change (plan ∷ plans) (slot ∷ slots) =
    starts_anew entries change (devices_in plan.edits) slot ∷ start_anew entries (suc change) plans slots

-- a manager that has read these entries, whatever was before
abbrev pub recovered : Managing → List Entry → Managing
recovered manager entries = record {
  plans = manager.plans;
  failed = None;
  has_failed = false;
  state = record { entries = entries; slots = start_anew entries 1 manager.plans manager.state.slots };
}

-- why the journal couldn't be reopened
abbrev pub fault_of : JournalFault → TurnFault
fault_of (journal.Damaged offset) = fault.Damaged offset
fault_of journal.NoMemory = fault.NoMemory
fault_of (journal.NotEmpty length) = fault.DiskFault
fault_of journal.DiskFault = fault.DiskFault
fault_of journal.Stopped = fault.DiskFault

-- the change set of an entry
abbrev pub change_of : Entry → ℕ
change_of (Started change devices timeout) = change
change_of (Decided change verdict) = change
change_of (Ended change kept) = change

-- an entry starts its change set for other devices than its plan names, or there is no plan
abbrev pub is_strange_to : Option ChangePlan → Entry → Bool
is_strange_to None entry = true
is_strange_to (Some plan) (Started change devices timeout) = not (devices.0 == devices_in plan.edits)
is_strange_to (Some plan) (Decided change verdict) = false
is_strange_to (Some plan) (Ended change kept) = false

-- an entry is of no change set that was given, or starts one for other devices than its own
abbrev pub is_strange : List ChangePlan → Entry → Bool
is_strange plans entry = is_strange_to (slice_get plans (change_of entry - 1)) entry

-- the first strange entry of a disk's list has its record at an offset
pub record IsStrangeAt (plans : List ChangePlan) (told : Option (List ℕ)) (offset : ℕ) : Type 0 where
  pub entries : List Entry
  pub read : IfSome told (ReadsAs entries)
  pub place : ℕ
  pub first : position (is_strange plans) entries ≡ Some place
  pub there : offset ≡ 16 * place
