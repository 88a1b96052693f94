-- A turn sends to devices that are counted from 1.
use Rattle.std.proofs.Common.{◌≡◌, ℕ, ◌-◌, ◌≤◌, Bool, true, false, List, Option, Some, None, IfSome, slice_get, refl}
use Rattle.std.proofs.lemmas.Bool.{cond_both}
use Rattle.nm_proto.specs.declared.ask.Ask.{Ask}
use Rattle.nm_proto.specs.declared.message.Request.{Request}
use Rattle.nm_proto.specs.declared.journal.Entry.TheVariants.{Decided, Ended}
use Rattle.nm_proto.specs.declared.plan.ChangePlan.{ChangePlan}
use Rattle.nm_journal.specs.Entries.{may_follow}
use Rattle.nm_decider.specs.declared.course.NextAction.{NextAction}
use Rattle.nm_decider.specs.declared.course.NextAction.TheVariants as next
use Rattle.nm_decider.specs.Course as course
use Rattle.nm_decider.specs.Course.{CourseState, next_action}
use Rattle.nm_decider.proofs.Actions.{asked}
use Rattle.nm_manager.specs.declared.action.Action.{Action}
use Rattle.nm_manager.specs.declared.action.Action.TheVariants as action
use Rattle.nm_manager.specs.Queues.{is_ready_in}
use Rattle.nm_manager.specs.Requests.{request_for}
use Rattle.nm_manager.specs.Slot.{SideState, SlotState, SlotStep, asked_in_fact, opens, may_go, sends_if, sends_request, sends_pair}
use Rattle.nm_manager.specs.Manager.{ManagerState, Step, idle, slot_at, with_entry, with_slot, sent_by, decided_by, acts, turned_by, turned}
use Rattle.nm_manager.specs.Slot as slot_specs
use Rattle.nm_manager.proofs.Reach.{side_reached}
use Rattle.nm_world.specs.declared.happened.Sending.{Sending}
use Rattle.nm_world.specs.World.{happened_of, sending_of}

-- what is sent goes to such a device
abbrev GoesOut : Action → Type 0
GoesOut (action.Sent device link request) = 1 ≤ device
GoesOut action.Idle = Unit {0}
GoesOut action.Started = Unit {0}
GoesOut action.Handled = Unit {0}
GoesOut action.Broken = Unit {0}
GoesOut (action.Decided verdict) = Unit {0}
GoesOut action.Ended = Unit {0}
GoesOut action.Forgot = Unit {0}

module _ (device : ℕ) (numbered : 1 ≤ device) (before now : CourseState) (side : SideState) where
  if_goes : (new : Bool) (request : Request) (b : Bool) → GoesOut (sends_if b new device before now side request).action
  if_goes new request true = numbered
  if_goes new request false = tt

  request_goes : (new : Bool) (found : Option Request) → GoesOut (sends_request new device before now side found).action
  request_goes new None = tt
  request_goes new (Some request) = if_goes new request (may_go new side.wire)

module _ (plans : List ChangePlan) (state : ManagerState) (change : ℕ) where
  sent_goes : (device : ℕ) → 1 ≤ device → (what : Ask) (plan : Option ChangePlan) (slot : Option SlotState) → GoesOut (sent_by state change plan slot device what).action
  sent_goes device numbered what None slot = tt
  sent_goes device numbered what (Some plan) None = tt
  sent_goes device numbered what (Some plan) (Some slot) =
      side_reached (sends_pair plan state.entries device what) slot device (λ (done : SlotStep). GoesOut done.action) tt
      (λ side there.
      request_goes device numbered slot.course (course.with_sent slot.course device) side (opens (asked_in_fact side.resync what))
      (request_for plan state.entries slot.course.change device (asked_in_fact side.resync what)))

  decided_goes : (verdict : _) (slot : Option SlotState) → GoesOut (decided_by state change verdict slot).action
  decided_goes verdict None = tt
  decided_goes verdict (Some slot) =
      cond_both (may_follow state.entries (Decided change verdict))
      (record { action = action.Decided verdict; state = with_slot (with_entry state (Decided change verdict)) change (slot_specs.decided slot verdict) }) (idle state) (λ (step : Step). GoesOut step.action) (λ _. tt) (λ _. tt)

  acted_goes : (slot : SlotState) (what : NextAction) → next_action slot.course ≡ what → GoesOut (acts plans state change what).action
  acted_goes slot next.Wait e = tt
  acted_goes slot (next.Send device what) e = sent_goes device (asked slot.course device what e).numbered what (slice_get plans (change - 1)) (slot_at state change)
  acted_goes slot (next.Decide verdict) e = decided_goes verdict (slot_at state change)
  acted_goes slot (next.Finish kept) e =
      cond_both (may_follow state.entries (Ended change kept)) (record { action = action.Ended; state = with_entry state (Ended change kept) }) (idle state) (λ (step : Step). GoesOut step.action) (λ _. tt) (λ _. tt)

  turned_by_goes : (slot : Option SlotState) → GoesOut (turned_by plans state change slot).action
  turned_by_goes None = tt
  turned_by_goes (Some slot) = acted_goes slot (next_action slot.course) refl

  turned_goes : GoesOut (turned plans state change).action
  turned_goes =
      cond_both (is_ready_in state.entries change) (turned_by plans state change (slot_at state change)) (idle state) (λ (step : Step). GoesOut step.action)
      (λ _. turned_by_goes (slot_at state change)) (λ _. tt)

happened_goes : (what : Action) → GoesOut what → IfSome (sending_of (happened_of what)) (λ (sending : Sending). 1 ≤ sending.device)
happened_goes (action.Sent device link request) goes = goes
happened_goes action.Idle goes = tt
happened_goes action.Started goes = tt
happened_goes action.Handled goes = tt
happened_goes action.Broken goes = tt
happened_goes (action.Decided verdict) goes = tt
happened_goes action.Ended goes = tt
happened_goes action.Forgot goes = tt

pub turn_goes : (plans : List ChangePlan) (state : ManagerState) (change : ℕ) → IfSome (sending_of (happened_of (turned plans state change).action)) (λ (sending : Sending). 1 ≤ sending.device)
turn_goes plans state change = happened_goes (turned plans state change).action (turned_goes plans state change)
