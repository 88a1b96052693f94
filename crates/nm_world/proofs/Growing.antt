-- What an event makes of the journal's entries, that of itself it doesn't stray, and that there are as many operators after it.
use Rattle.std.proofs.Common.{◌≡◌, ℕ, ◌-◌, List, [], ◌∷◌, ◌++◌, length, Bool, true, false, ◌&&◌, not, Option, Some, None, IfSome, slice_get, refl, sym, ap, ◌∙◌, subst, append_assoc, append-nil, inl, inr, if◌then◌else◌}
use Rattle.std.proofs.lemmas.List.{length-set}
use Rattle.std.proofs.lemmas.Bool.{cond_both}
use Rattle.nm_proto.specs.Content.{Meaning, TablesState}
use Rattle.nm_proto.specs.declared.ask.Ask.{Ask}
use Rattle.nm_proto.specs.declared.message.Request.{Request}
use Rattle.nm_proto.specs.declared.journal.Entry.{Entry}
use Rattle.nm_proto.specs.declared.journal.Entry.TheVariants as entries
use Rattle.nm_proto.specs.declared.plan.ChangePlan.{ChangePlan}
use Rattle.nm_proto.specs.declared.plan.Event.{Event}
use Rattle.nm_proto.specs.declared.plan.Event.TheVariants.{Submit, Turn, Deliver, Answer, Break, Lose, Advance, Restart, Forget, Crash, Renew, Foreign, Leave, Round}
use Rattle.nm_journal.specs.Entries.{may_follow}
use Rattle.nm_journal.specs.Fits.{ReadsAs}
use Rattle.nm_recovery.specs.Recovery.{is_started, is_ended_in}
use Rattle.nm_decider.specs.declared.course.NextAction.{NextAction}
use Rattle.nm_decider.specs.declared.course.NextAction.TheVariants as next
use Rattle.nm_decider.specs.Course.{CourseState, next_action}
use Rattle.nm_wire.specs.Wire.{WireState, session_at}
use Rattle.nm_history.specs.History.{RecordedState, Served, Parted, served, lost}
use Rattle.nm_manager.specs.declared.action.Action.{Action}
use Rattle.nm_manager.specs.declared.action.Action.TheVariants as action
use Rattle.nm_manager.specs.Queues.{is_ready_in}
use Rattle.nm_manager.specs.Slot.{SideState, SlotState, PairStep, sends_pair, renews_pair, receives_pair, breaks_pair, decided, told_wire, lost_wire}
use Rattle.nm_manager.specs.Manager as manager
use Rattle.nm_manager.specs.Manager.{ManagerState, Step, MayRead, slot_at, start_of, start_by, entry_of, entry_by, entry_next, submitted_by, sent_by, acts, turned_by, on_slot, forgotten_by, renewed_by, wires_in, told_on, lost_on, wire_in}
use Rattle.nm_world.specs.Runs.{GoesOnAs, IsBetween}
use Rattle.nm_world.specs.World as world
use Rattle.nm_world.specs.World.{Setting, CoreState, WorldState, Came, Meeting, Moved, Asking, manager_in, core_of, met, moved, asked_by, told_by, lost_by, loses, lost_from, losing_at, does, delivered_to, delivering_at, anew_at, is_side_open, undelivered, device_at, later_at, asking_at, leaving_at, operator_at, elementary, world_step}
use Rattle.nm_world.proofs.Order.{reads_follow}

-- ---- lists

pub goes_itself : (entries : List Entry) → GoesOnAs entries entries
goes_itself entries = record { more = []; is = sym (append-nil entries) }

goes_more : (entries : List Entry) (entry : Entry) → GoesOnAs entries (entries ++ entry ∷ [])
goes_more entries entry = record { more = entry ∷ []; is = refl }

pub goes_then : (first second third : List Entry) → GoesOnAs first second → GoesOnAs second third → GoesOnAs first third
goes_then first second third one other = record {
  more = one.more ++ other.more;
  is = other.is ∙ ap (λ s. s ++ other.more) one.is ∙ append_assoc first one.more other.more;
}

-- a list of a part is one of the whole
pub between_more : (before mid after : List Entry) → GoesOnAs mid after → (image : List ℕ) → IsBetween before mid image → IsBetween before after image
between_more before mid after goes image is = record { so_far = is.so_far; reads = is.reads; began = is.began; goes_on = goes_then is.so_far mid after is.goes_on goes }

pub between_earlier : (before mid after : List Entry) → GoesOnAs before mid → (image : List ℕ) → IsBetween mid after image → IsBetween before after image
between_earlier before mid after goes image is = record { so_far = is.so_far; reads = is.reads; began = goes_then before mid is.so_far goes is.began; goes_on = is.goes_on }

pub between_first : (before after : List Entry) → GoesOnAs before after → (image : List ℕ) → ReadsAs before image → IsBetween before after image
between_first before after goes image reads = record { so_far = before; reads = reads; began = goes_itself before; goes_on = goes }

-- ---- an entry that may come

abbrev with_if : Bool → List Entry → Entry → List Entry
with_if may entries entry = if may then entries ++ entry ∷ [] else entries

-- these entries, with the one that was to come where it may follow
abbrev pub Enters : List Entry → Option Entry → List Entry → Type 0
Enters entries None after = after ≡ entries
Enters entries (Some entry) after = after ≡ with_if (may_follow entries entry) entries entry

pub enters_goes : (entries : List Entry) (entry : Option Entry) (after : List Entry) → Enters entries entry after → GoesOnAs entries after
enters_goes entries None after is = subst (GoesOnAs entries) (sym is) (goes_itself entries)
enters_goes entries (Some entry) after is = subst (GoesOnAs entries) (sym is)
    (cond_both (may_follow entries entry) (entries ++ entry ∷ []) entries (GoesOnAs entries) (λ _. goes_more entries entry) (λ _. goes_itself entries))

pub may_between : (entries : List Entry) (entry : Option Entry) (after : List Entry) → Enters entries entry after → (image : List ℕ) → MayRead entries entry image → IsBetween entries after image
may_between entries None after is image reads = between_first entries after (enters_goes entries None after is) image reads
may_between entries (Some entry) after is image (inl without) = between_first entries after (enters_goes entries (Some entry) after is) image without
may_between entries (Some entry) after is image (inr with) =
    let there : after ≡ entries ++ entry ∷ [] = is ∙ ap (λ may. with_if may entries entry) (reads_follow entries entry image with) in
    subst (λ l. IsBetween entries l image) (sym there)
    (record { so_far = entries ++ entry ∷ []; reads = with; began = goes_more entries entry; goes_on = goes_itself (entries ++ entry ∷ []) })

-- ---- the manager

abbrev StepEnters : ManagerState → Option Entry → Step → Type 0
StepEnters state entry step = Enters state.entries entry step.state.entries

step_if : (may : Bool) (state now : ManagerState) (what : Action) (entry : Entry) → now.entries ≡ state.entries ++ entry ∷ []
    → (if may then record { action = what; state = now } else manager.idle state).state.entries ≡ with_if may state.entries entry
step_if true state now what entry is = is
step_if false state now what entry is = refl

submits_enters : (state : ManagerState) (change : ℕ) (plan : Option ChangePlan) → StepEnters state (start_by change plan) (submitted_by state change plan)
submits_enters state change None = refl
submits_enters state change (Some plan) =
    step_if (may_follow state.entries (start_of change plan)) state (manager.with_entry state (start_of change plan)) action.Started (start_of change plan) refl

pair_enters : (step : CourseState → SideState → PairStep) (state : ManagerState) (change device : ℕ) (slot : Option SlotState) → StepEnters state None (on_slot step state change device slot)
pair_enters step state change device None = refl
pair_enters step state change device (Some slot) = refl

sends_enters : (state : ManagerState) (change device : ℕ) (what : Ask) (plan : Option ChangePlan) (slot : Option SlotState) → StepEnters state None (sent_by state change plan slot device what)
sends_enters state change device what None slot = refl
sends_enters state change device what (Some plan) slot = pair_enters (sends_pair plan state.entries device what) state change device slot

acts_enters : (plans : List ChangePlan) (state : ManagerState) (change : ℕ) (slot : SlotState) (act : NextAction) → slot_at state change ≡ Some slot
    → StepEnters state (entry_of change act) (acts plans state change act)
acts_enters plans state change slot next.Wait is = refl
acts_enters plans state change slot (next.Send device what) is = sends_enters state change device what (slice_get plans (change - 1)) (slot_at state change)
acts_enters plans state change slot (next.Decide verdict) is =
    let entry : Entry = entries.Decided change verdict in
    subst (λ s. StepEnters state (Some entry) (manager.decided_by state change verdict s)) (sym is)
    (step_if (may_follow state.entries entry) state (manager.with_slot (manager.with_entry state entry) change (decided slot verdict)) (action.Decided verdict) entry refl)
acts_enters plans state change slot (next.Finish kept) is =
    let entry : Entry = entries.Ended change kept in
    step_if (may_follow state.entries entry) state (manager.with_entry state entry) action.Ended entry refl

turned_by_enters : (plans : List ChangePlan) (state : ManagerState) (change : ℕ) (slot : Option SlotState) → slot_at state change ≡ slot
    → StepEnters state (entry_by change slot) (turned_by plans state change slot)
turned_by_enters plans state change None is = refl
turned_by_enters plans state change (Some slot) is = acts_enters plans state change slot (next_action slot.course) is

turns_enters : (plans : List ChangePlan) (state : ManagerState) (change : ℕ) (is_ready : Bool)
    → StepEnters state (if is_ready then entry_next state change else None) (if is_ready then turned_by plans state change (slot_at state change) else manager.idle state)
turns_enters plans state change true = turned_by_enters plans state change (slot_at state change) refl
turns_enters plans state change false = refl

forgets_enters : (state : ManagerState) (change : ℕ) (plan : Option ChangePlan) (slot : Option SlotState) (may : Bool)
    → StepEnters state None (if may then forgotten_by state change plan slot else manager.idle state)
forgets_enters state change plan slot false = refl
forgets_enters state change None slot true = refl
forgets_enters state change (Some plan) None true = refl
forgets_enters state change (Some plan) (Some slot) true = refl

renews_enters : (state : ManagerState) (change device : ℕ) (plan : Option ChangePlan) (slot : Option SlotState) (may : Bool)
    → StepEnters state None (if may then renewed_by state change device plan slot else manager.idle state)
renews_enters state change device plan slot false = refl
renews_enters state change device None slot true = refl
renews_enters state change device (Some plan) slot true = pair_enters (renews_pair plan state.entries device) state change device slot

wires_entries : (state : ManagerState) (change device : ℕ) (happens : WireState → WireState) (slot : Option SlotState) → (wires_in state change device happens slot).entries ≡ state.entries
wires_entries state change device happens None = refl
wires_entries state change device happens (Some slot) = refl

-- ---- a device and the manager

module _ {Config TheEdit Node : Type 0} (m : Meaning Config TheEdit Node) (state : ManagerState) (change device link : ℕ) where
  abbrev Keeps : Option (Meeting Config Node) → Type 0
  Keeps meeting = IfSome meeting (λ met. met.manager.entries ≡ state.entries)

  told_keeps : (done : Option (Served Config Node)) → Keeps (told_by state change device link done)
  told_keeps None = tt
  told_keeps (Some s) = wires_entries state change device (told_wire link s.reply) (slot_at state change)

  lost_keeps : (done : Option (Parted Config Node)) → Keeps (lost_by state change device link done)
  lost_keeps None = tt
  lost_keeps (Some parted) = wires_entries state change device (lost_wire link) (slot_at state change)

  loses_keeps : (r : RecordedState Config Node) (session : Option ℕ) → Keeps (loses m r state change device link session)
  loses_keeps r None = wires_entries state change device (lost_wire link) (slot_at state change)
  loses_keeps r (Some session) = lost_keeps (lost m r session)

  losing_keeps : (found : Option (RecordedState Config Node)) → Keeps (losing_at m state change device link found)
  losing_keeps None = tt
  losing_keeps (Some r) =
      let links = wire_in state change device in
      cond_both (is_side_open r links link) (loses m r state change device link (session_at links link)) None Keeps (λ _. loses_keeps r (session_at links link)) (λ _. tt)

  does_keeps : (tables : TablesState TheEdit) (r : RecordedState Config Node) (session : Option ℕ) (request : Option Request) → Keeps (does m tables r state change device link session request)
  does_keeps tables r session None = tt
  does_keeps tables r session (Some request) = told_keeps (served m tables r session request)

  delivering_keeps : (tables : TablesState TheEdit) (found : Option (RecordedState Config Node)) → Keeps (delivering_at m tables state change device link found)
  delivering_keeps tables None = tt
  delivering_keeps tables (Some r) = let links = wire_in state change device in does_keeps tables r (session_at links link) (undelivered r links link)

anew_keeps : {Config TheEdit Node : Type 0} (m : Meaning Config TheEdit Node) (state : ManagerState) (device : ℕ) (found : Option (RecordedState Config Node))
    → IfSome (anew_at m state device found) (λ met. met.manager.entries ≡ state.entries)
anew_keeps m state device None = tt
anew_keeps m state device (Some r) = refl

-- ---- any event

module _ {Config Node : Type 0} (w : CoreState Config Node) where
  met_enters : (device : ℕ) (x : Option (Meeting Config Node)) → IfSome x (λ m. m.manager.entries ≡ w.entries) → (met w device x).after.entries ≡ w.entries
  met_enters device None keeps = refl
  met_enters device (Some m) keeps = keeps

  moved_enters : (device : ℕ) (x : Option (Moved Config Node)) → (moved w device x).after.entries ≡ w.entries
  moved_enters device None = refl
  moved_enters device (Some now) = refl

  asked_enters : (number device : ℕ) (x : Option (Asking Config Node)) → (asked_by w number device x).after.entries ≡ w.entries
  asked_enters number device None = refl
  asked_enters number device (Some a) = refl

  met_diverges : (device : ℕ) (x : Option (Meeting Config Node)) → (met w device x).after.has_diverged ≡ w.has_diverged
  met_diverges device None = refl
  met_diverges device (Some m) = refl

  moved_diverges : (device : ℕ) (x : Option (Moved Config Node)) → (moved w device x).after.has_diverged ≡ w.has_diverged
  moved_diverges device None = refl
  moved_diverges device (Some now) = refl

  asked_diverges : (number device : ℕ) (x : Option (Asking Config Node)) → (asked_by w number device x).after.has_diverged ≡ w.has_diverged
  asked_diverges number device None = refl
  asked_diverges number device (Some a) = refl

  abbrev AsMany : Came Config Node → Type 0
  AsMany c = length c.after.operators ≡ length w.operators

  met_as_many : (device : ℕ) (x : Option (Meeting Config Node)) → AsMany (met w device x)
  met_as_many device None = refl
  met_as_many device (Some m) = refl

  moved_as_many : (device : ℕ) (x : Option (Moved Config Node)) → AsMany (moved w device x)
  moved_as_many device None = refl
  moved_as_many device (Some now) = refl

  asked_as_many : (number device : ℕ) (x : Option (Asking Config Node)) → AsMany (asked_by w number device x)
  asked_as_many number device None = refl
  asked_as_many number device (Some a) = length-set w.operators (number - 1) a.operator

module _ {Config TheEdit Node : Type 0} (m : Meaning Config TheEdit Node) (setting : Setting TheEdit) where
  pub event_enters : (w : CoreState Config Node) (event : Event) → Enters w.entries (world.entry_of setting w event) (elementary m setting w event).after.entries
  event_enters w (Submit change) = submits_enters (manager_in w) change (slice_get setting.plans (change - 1))
  event_enters w (Turn change) = turns_enters setting.plans (manager_in w) change (is_ready_in w.entries change)
  event_enters w (Deliver change device link) =
      met_enters w device (delivering_at m setting.tables (manager_in w) change device link (device_at w device)) (delivering_keeps m (manager_in w) change device link setting.tables (device_at w device))
  event_enters w (Answer change device link number) = pair_enters (receives_pair device link number) (manager_in w) change device (slot_at (manager_in w) change)
  event_enters w (Break change device) = pair_enters (breaks_pair device) (manager_in w) change device (slot_at (manager_in w) change)
  event_enters w (Lose change device link) =
      met_enters w device (losing_at m (manager_in w) change device link (device_at w device)) (losing_keeps m (manager_in w) change device link (device_at w device))
  event_enters w (Advance device seconds) = moved_enters w device (later_at m seconds (device_at w device))
  event_enters w (Restart device) = met_enters w device (anew_at m (manager_in w) device (device_at w device)) (anew_keeps m (manager_in w) device (device_at w device))
  event_enters w (Forget change) = forgets_enters (manager_in w) change (slice_get setting.plans (change - 1)) (slot_at (manager_in w) change) (is_started change w.entries && not (is_ended_in change w.entries))
  event_enters w Crash = refl
  event_enters w (Renew change device) = renews_enters (manager_in w) change device (slice_get setting.plans (change - 1)) (slot_at (manager_in w) change) (is_ready_in w.entries change)
  event_enters w (Foreign operator device request) = asked_enters w operator device (asking_at m setting.tables device request (operator_at w.operators operator) (device_at w device))
  event_enters w (Leave operator device) = moved_enters w device (leaving_at m device (operator_at w.operators operator) (device_at w device))
  event_enters w (Round change turns) = refl

  pub event_diverges : (w : CoreState Config Node) (event : Event) → (elementary m setting w event).after.has_diverged ≡ w.has_diverged
  event_diverges w (Submit change) = refl
  event_diverges w (Turn change) = refl
  event_diverges w (Deliver change device link) = met_diverges w device (delivering_at m setting.tables (manager_in w) change device link (device_at w device))
  event_diverges w (Answer change device link number) = refl
  event_diverges w (Break change device) = refl
  event_diverges w (Lose change device link) = met_diverges w device (losing_at m (manager_in w) change device link (device_at w device))
  event_diverges w (Advance device seconds) = moved_diverges w device (later_at m seconds (device_at w device))
  event_diverges w (Restart device) = met_diverges w device (anew_at m (manager_in w) device (device_at w device))
  event_diverges w (Forget change) = refl
  event_diverges w Crash = refl
  event_diverges w (Renew change device) = refl
  event_diverges w (Foreign operator device request) = asked_diverges w operator device (asking_at m setting.tables device request (operator_at w.operators operator) (device_at w device))
  event_diverges w (Leave operator device) = moved_diverges w device (leaving_at m device (operator_at w.operators operator) (device_at w device))
  event_diverges w (Round change turns) = refl

  pub event_as_many : (w : CoreState Config Node) (event : Event) → length (elementary m setting w event).after.operators ≡ length w.operators
  event_as_many w (Submit change) = refl
  event_as_many w (Turn change) = refl
  event_as_many w (Deliver change device link) = met_as_many w device (delivering_at m setting.tables (manager_in w) change device link (device_at w device))
  event_as_many w (Answer change device link number) = refl
  event_as_many w (Break change device) = refl
  event_as_many w (Lose change device link) = met_as_many w device (losing_at m (manager_in w) change device link (device_at w device))
  event_as_many w (Advance device seconds) = moved_as_many w device (later_at m seconds (device_at w device))
  event_as_many w (Restart device) = met_as_many w device (anew_at m (manager_in w) device (device_at w device))
  event_as_many w (Forget change) = refl
  event_as_many w Crash = refl
  event_as_many w (Renew change device) = refl
  event_as_many w (Foreign operator device request) = asked_as_many w operator device (asking_at m setting.tables device request (operator_at w.operators operator) (device_at w device))
  event_as_many w (Leave operator device) = moved_as_many w device (leaving_at m device (operator_at w.operators operator) (device_at w device))
  event_as_many w (Round change turns) = refl

  pub step_grows : (w : WorldState Config Node) (event : Event) → GoesOnAs w.entries (world_step m setting w event).entries
  step_grows w event = enters_goes w.entries (world.entry_of setting (core_of w) event) (world_step m setting w event).entries (event_enters (core_of w) event)
