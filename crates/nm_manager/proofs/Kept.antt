-- What every manager keeps.
use Rattle.std.proofs.Common.{◌≡◌, ℕ, ◌-◌, Bool, true, false, cond, List, [], ◌∷◌, ◌++◌, Option, Some, None, IfSome, slice_get, option_map, refl}
use Rattle.nm_proto.specs.declared.ask.Ask.{Ask}
use Rattle.nm_proto.specs.declared.ask.Ask.TheVariants as ask
use Rattle.nm_proto.specs.declared.message.Request.{Request}
use Rattle.nm_proto.specs.declared.journal.Entry.{Entry}
use Rattle.nm_proto.specs.declared.journal.Entry.TheVariants.{Decided, Ended}
use Rattle.nm_proto.specs.declared.journal.Verdict.{Verdict}
use Rattle.nm_proto.specs.declared.plan.ChangePlan.{ChangePlan}
use Rattle.nm_proto.specs.declared.plan.PlannedEdit.{PlannedEdit}
use Rattle.nm_journal.specs.Entries.{may_follow}
use Rattle.nm_wire.specs.Asks.{ask_of}
use Rattle.nm_decider.specs.Course.{CourseState, next_action}
use Rattle.nm_decider.specs.declared.course.NextAction.{NextAction}
use Rattle.nm_decider.specs.declared.course.NextAction.TheVariants as next
use Rattle.nm_manager.specs.declared.action.Action.{Action}
use Rattle.nm_manager.specs.declared.action.Action.TheVariants as action
use Rattle.nm_manager.specs.Queues.{is_ready_in}
use Rattle.nm_manager.specs.Requests.{request_for, edit_for, edit_request}
use Rattle.nm_manager.specs.Slot.{SideState, SlotState, sends_if, sends_request, may_go, on_side, sends_pair}
use Rattle.nm_manager.specs.Manager.{ManagerState, slot_at, acts, turned, turned_by, sent_by, decided_by, idle}

edit_asks : (entries : List Entry) (change : ℕ) (found : Option PlannedEdit) → IfSome (option_map (edit_request entries change) found) (λ request. ask_of request ≡ ask.Edit)
edit_asks entries change None = search
edit_asks entries change (Some planned) = refl

pub asks_fit : (plan : ChangePlan) (entries : List Entry) (change device : ℕ) (what : Ask) → IfSome (request_for plan entries change device what) (λ request. ask_of request ≡ what)
asks_fit plan entries change device ask.OpenSession = refl
asks_fit plan entries change device ask.LockRunning = refl
asks_fit plan entries change device ask.LockCandidate = refl
asks_fit plan entries change device ask.Edit = edit_asks entries change (edit_for plan device)
asks_fit plan entries change device ask.Validate = refl
asks_fit plan entries change device ask.CommitConfirmed = refl
asks_fit plan entries change device ask.Renew = refl
asks_fit plan entries change device ask.Confirm = refl
asks_fit plan entries change device ask.Cancel = refl
asks_fit plan entries change device ask.HasMark = refl
asks_fit plan entries change device ask.Discard = refl
asks_fit plan entries change device ask.CloseSession = refl
asks_fit plan entries change device ask.Resync = search

-- ---- a verdict

module _ (verdict : Verdict) where
  none_if : (b new : Bool) (device : ℕ) (before now : CourseState) (side : SideState) (request : Request) → (sends_if b new device before now side request).action ≡ action.Decided verdict → ⊥
  none_if true new device before now side request h = absurd (let e = h in cc)
  none_if false new device before now side request h = absurd (let e = h in cc)

  none_request : (new : Bool) (device : ℕ) (before now : CourseState) (side : SideState) (request : Option Request) → (sends_request new device before now side request).action ≡ action.Decided verdict → ⊥
  none_request new device before now side None h = absurd (let e = h in cc)
  none_request new device before now side (Some request) h = none_if (may_go new side.wire) new device before now side request h

  none_on : (plan : ChangePlan) (entries : List Entry) (slot : SlotState) (device : ℕ) (what : Ask) (side : Option SideState) → (on_side (sends_pair plan entries device what) slot device side).action ≡ action.Decided verdict → ⊥
  none_on plan entries slot device what None h = absurd (let e = h in cc)
  none_on plan entries slot device what (Some side) h = none_request _ device slot.course _ side _ h

  none_sent : (state : ManagerState) (change : ℕ) (plan : Option ChangePlan) (slot : Option SlotState) (device : ℕ) (what : Ask) → (sent_by state change plan slot device what).action ≡ action.Decided verdict → ⊥
  none_sent state change None slot device what h = absurd (let e = h in cc)
  none_sent state change (Some plan) None device what h = absurd (let e = h in cc)
  none_sent state change (Some plan) (Some slot) device what h = none_on plan state.entries slot device what _ h

  entered_if : (b : Bool) (state now : ManagerState) (what : Action) (entries : List Entry) → (what ≡ action.Decided verdict → now.entries ≡ entries)
      → (cond b (record { action = what; state = now }) (idle state)).action ≡ action.Decided verdict → (cond b (record { action = what; state = now }) (idle state)).state.entries ≡ entries
  entered_if true state now what entries is h = is h
  entered_if false state now what entries is h = absurd (let e = h in cc)

  decided_enters : (state : ManagerState) (change : ℕ) (other : Verdict) (slot : Option SlotState) → (decided_by state change other slot).action ≡ action.Decided verdict
      → (decided_by state change other slot).state.entries ≡ state.entries ++ Decided change verdict ∷ []
  decided_enters state change other None h = absurd (let e = h in cc)
  decided_enters state change other (Some slot) h =
      entered_if (may_follow state.entries (Decided change other)) state _ (action.Decided other) (state.entries ++ Decided change verdict ∷ [])
      (λ is. let e : other ≡ verdict = cc in rw e refl) h

  ended_none : (b : Bool) (state now : ManagerState) → (cond b (record { action = action.Ended; state = now }) (idle state)).action ≡ action.Decided verdict → ⊥
  ended_none true state now h = absurd (let e = h in cc)
  ended_none false state now h = absurd (let e = h in cc)

  act_enters : (plans : List ChangePlan) (state : ManagerState) (change : ℕ) (what : NextAction) → (acts plans state change what).action ≡ action.Decided verdict
      → (acts plans state change what).state.entries ≡ state.entries ++ Decided change verdict ∷ []
  act_enters plans state change next.Wait h = absurd (let e = h in cc)
  act_enters plans state change (next.Send device what) h = absurd (none_sent state change (slice_get plans (change - 1)) (slot_at state change) device what h)
  act_enters plans state change (next.Decide other) h = decided_enters state change other (slot_at state change) h
  act_enters plans state change (next.Finish kept) h = absurd (ended_none (may_follow state.entries (Ended change kept)) state _ h)

  turned_enters : (plans : List ChangePlan) (state : ManagerState) (change : ℕ) (slot : Option SlotState) → (turned_by plans state change slot).action ≡ action.Decided verdict
      → (turned_by plans state change slot).state.entries ≡ state.entries ++ Decided change verdict ∷ []
  turned_enters plans state change None h = absurd (let e = h in cc)
  turned_enters plans state change (Some slot) h = act_enters plans state change (next_action slot.course) h

  ready_enters : (b : Bool) (plans : List ChangePlan) (state : ManagerState) (change : ℕ) → (cond b (turned_by plans state change (slot_at state change)) (idle state)).action ≡ action.Decided verdict
      → (cond b (turned_by plans state change (slot_at state change)) (idle state)).state.entries ≡ state.entries ++ Decided change verdict ∷ []
  ready_enters true plans state change h = turned_enters plans state change (slot_at state change) h
  ready_enters false plans state change h = absurd (let e = h in cc)

  pub verdict_enters : (plans : List ChangePlan) (state : ManagerState) (change : ℕ) → (turned plans state change).action ≡ action.Decided verdict
      → (turned plans state change).state.entries ≡ state.entries ++ Decided change verdict ∷ []
  verdict_enters plans state change h = ready_enters (is_ready_in state.entries change) plans state change h

pub not_ready : (plans : List ChangePlan) (state : ManagerState) (change : ℕ) → is_ready_in state.entries change ≡ false → turned plans state change ≡ idle state
not_ready plans state change h = rw h refl
