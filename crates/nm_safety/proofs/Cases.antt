-- What each kind of step owes is all that an event owes.
use Rattle.std.proofs.Common.{ℕ, ◌≡◌, ◌∙◌, ◌-◌, ◌≤◌, ◌==◌, Bool, true, false, cond, not, ◌&&◌, List, [], Option, Some, None, is_some, option_and_then, slice_get, refl, sym, ap, subst, if◌then◌else◌}
use Rattle.std.proofs.lemmas.Bool.{cond_both}
use Rattle.std.proofs.lemmas.Option.{none-some, same_Some}
use Rattle.nm_proto.specs.declared.ask.Ask.{Ask}
use Rattle.nm_proto.specs.declared.message.Request.{Request}
use Rattle.nm_proto.specs.declared.message.Request.TheVariants.{OpenSession, Lock, Unlock, PartialLock, PartialUnlock, Edit, Validate, Commit, CancelCommit, Discard, HasMark, GetConfig, Kill, CloseSession}
use Rattle.nm_proto.specs.declared.message.Reply.{Reply}
use Rattle.nm_proto.specs.declared.journal.Entry.{Entry}
use Rattle.nm_proto.specs.declared.journal.Entry.TheVariants.{Decided, Ended}
use Rattle.nm_proto.specs.declared.plan.ChangePlan.{ChangePlan}
use Rattle.nm_proto.specs.declared.plan.Event.{Event}
use Rattle.nm_proto.specs.declared.plan.Event.TheVariants.{Submit, Turn, Deliver, Answer, Break, Lose, Advance, Restart, Forget, Crash, Renew, Foreign, Leave, Round}
use Rattle.nm_proto.specs.Content.{Meaning}
use Rattle.nm_journal.specs.Entries.{may_follow}
use Rattle.nm_sessions.specs.Sessions.{is_open}
use Rattle.nm_device.specs.Table.{opening_user, is_opening}
use Rattle.nm_history.specs.declared.event.DeviceEvent.{DeviceEvent}
use Rattle.nm_history.specs.declared.event.DeviceEvent.TheVariants.{Entered, Asked, Lost}
use Rattle.nm_history.specs.History.{Happened, RecordedState, Served, Parted, device_event, event_by, lost, loss_of, parted_as, recorded_with, replied_with, served, served_as, served_event}
use Rattle.nm_device_laws.specs.Moment.{Happens}
use Rattle.nm_recovery.specs.Recovery.{is_started, is_ended_in}
use Rattle.nm_decider.specs.declared.course.NextAction.{NextAction}
use Rattle.nm_decider.specs.declared.course.NextAction.TheVariants as next
use Rattle.nm_decider.specs.Course.{next_action}
use Rattle.nm_wire.specs.Link.{LinkState, session_of}
use Rattle.nm_wire.specs.Wire.{WireState, is_open_link, is_open_at, link_at, outstanding_at, session_at}
use Rattle.nm_manager.specs.declared.action.Action.{Action}
use Rattle.nm_manager.specs.declared.action.Action.TheVariants as action
use Rattle.nm_manager.specs.Queues.{is_ready_in}
use Rattle.nm_manager.specs.Slot.{SideState, SlotState, decided, lost_wire, told_wire, wire_of_side, wires_on, receives_pair, breaks_pair}
use Rattle.nm_manager.specs.Manager as manager
use Rattle.nm_manager.specs.Manager.{ManagerState, Step, acts, broken, decided_by, enters, forgotten_by, lost_on, received, renewed_by, sent_by, slot_at, start_of, submitted_by, told_on, turned_by, wire_in, wire_of, wires_in, with_entry, with_slot}
use Rattle.nm_manager.proofs.Reach.{slot_reached}
use Rattle.nm_safety.proofs.Answered.{there_out}
use Rattle.nm_safety.proofs.Places.{set_same}
use Rattle.nm_world.specs.declared.happened.Happened.TheVariants as happened
use Rattle.nm_world.specs.World.{Setting, CoreState, Asking, Came, Meeting, anew_at, answered_to, asked_by, asking_at, asks_with, by_manager, came, delivering_at, does, elementary, given_on, has_on, is_session_open, is_side_open, later_at, leaving_at, left_with, loses, losing_at, lost_by, manager_in, met, moved, open_on, operator_at, parted_by, told_by, undelivered, with_device, with_manager}
use Rattle.nm_safety.specs.Safe.{IsGiven, IsOwnOpening}
use Rattle.nm_safety.specs.Cases.{Answers, Cases, IsLink, IsOperating, IsSlot}

-- ---- what a device does

opens_user : (request : Request) (user : List ℕ) → opening_user request ≡ Some user → request ≡ OpenSession user
opens_user (OpenSession other) user e = ap OpenSession (same_Some other user e)
opens_user (Lock store) user e = absurd (none-some user e)
opens_user (Unlock store) user e = absurd (none-some user e)
opens_user (PartialLock select) user e = absurd (none-some user e)
opens_user (PartialUnlock id) user e = absurd (none-some user e)
opens_user (Edit edit operation marks) user e = absurd (none-some user e)
opens_user Validate user e = absurd (none-some user e)
opens_user (Commit confirmed timeout persist persist_id) user e = absurd (none-some user e)
opens_user (CancelCommit persist_id) user e = absurd (none-some user e)
opens_user Discard user e = absurd (none-some user e)
opens_user (HasMark mark) user e = absurd (none-some user e)
opens_user GetConfig user e = absurd (none-some user e)
opens_user (Kill other) user e = absurd (none-some user e)
opens_user CloseSession user e = absurd (none-some user e)

module _ {Config TheEdit Node : Type 0} (m : Meaning Config TheEdit Node) (setting : Setting TheEdit) (r : RecordedState Config Node) where
  -- a request is served
  module _ (request : Request) (T : Option (Served Config Node) → Type 0) (none : T None) where
    abbrev Each : DeviceEvent → Type 0
    Each event = (d : Answers m setting r event) → T (Some (record { reply = d.reply; undone = d.h.undone; after = recorded_with r event d.h }))

    serves_reply : (event : DeviceEvent) (h : Happened Config Node) → Happens m setting.tables r.device event h → Each event → (reply : Option Reply)
        → h.reply ≡ reply → T (replied_with r event h reply)
    serves_reply event h happens each None e = none
    serves_reply event h happens each (Some reply) e = each (record { h = h; happens = happens; reply = reply; replies = e })

    serves_event : (event : DeviceEvent) → Each event → (done : Option (Happened Config Node)) → device_event m setting.tables r.device event ≡ done
        → T (served_as r event done)
    serves_event event each None e = none
    serves_event event each (Some h) e = serves_reply event h e each h.reply refl

    serves_session : (session : Option ℕ) → ((u : ℕ) → session ≡ Some u → Each (Asked u request))
        → T (served_event m setting.tables r (event_by session request None))
    serves_session None asks = none
    serves_session (Some u) asks = serves_event (Asked u request) (asks u refl) (device_event m setting.tables r.device (Asked u request)) refl

    serves_by : (session : Option ℕ) → ((user : List ℕ) → request ≡ OpenSession user → Each (Entered user))
        → (opening_user request ≡ None → (u : ℕ) → session ≡ Some u → Each (Asked u request)) → (user : Option (List ℕ)) → opening_user request ≡ user
        → T (served_event m setting.tables r (event_by session request user))
    serves_by session opens asks None e = serves_session session (asks e)
    serves_by session opens asks (Some user) e =
        serves_event (Entered user) (opens user (opens_user request user e)) (device_event m setting.tables r.device (Entered user)) refl

    serves : (session : Option ℕ) → ((user : List ℕ) → request ≡ OpenSession user → Each (Entered user))
        → (opening_user request ≡ None → (u : ℕ) → session ≡ Some u → Each (Asked u request)) → T (served m setting.tables r session request)
    serves session opens asks = serves_by session opens asks (opening_user request) refl

  -- a session is lost
  module _ (session : ℕ) (T : Option (Parted Config Node) → Type 0) (none : T None)
      (each : (h : Happened Config Node) → Happens m setting.tables r.device (Lost session) h → T (Some (record { undone = h.undone; after = recorded_with r (Lost session) h }))) where
    parts_by : (done : Option (Happened Config Node)) → loss_of m r.device session ≡ done → T (parted_as r (Lost session) done)
    parts_by None e = none
    parts_by (Some h) e = each h e

    parts : T (lost m r session)
    parts = parts_by (loss_of m r.device session) refl

-- ---- the session that an operator has

module _ {Config Node : Type 0} (r : RecordedState Config Node) where
  open_if : (b : Bool) (one session : ℕ) → cond b (Some one) None ≡ Some session → (b ≡ true) × (one ≡ session)
  open_if true one session e = (refl, same_Some one session e)
  open_if false one session e = absurd (none-some session e)

  has_by : (given : Option ℕ) (session : ℕ) → open_on r given ≡ Some session → (given ≡ Some session) × (is_open r.device.sessions session ≡ true)
  has_by None session e = absurd (none-some session e)
  has_by (Some one) session e =
      let c = open_if (is_open r.device.sessions one) one session e in
      (ap Some c.1, subst (λ t. is_open r.device.sessions t ≡ true) c.1 c.0)

-- who may ask for one has none
none_had : (opening : Bool) (had : Option ℕ) → opening ≡ true → (opening && is_some had) ≡ false → had ≡ None
none_had true None e f = refl
none_had true (Some session) e f = absurd (let g : true ≡ false = f in cc)
none_had false had e f = absurd (let g : false ≡ true = e in cc)

operator_there : (operators : List (List (Option ℕ))) (number : ℕ) (operator : List (Option ℕ)) → operator_at operators number ≡ Some operator
    → slice_get operators (number - 1) ≡ Some operator
operator_there operators number operator e = by_zero (number == 0) e
  where
    by_zero : (b : Bool) → cond b None (slice_get operators (number - 1)) ≡ Some operator → slice_get operators (number - 1) ≡ Some operator
    by_zero true e = absurd (none-some operator e)
    by_zero false e = e

-- ---- links

both : (a b : Bool) → (a && b) ≡ true → (a ≡ true) × (b ≡ true)
both true true e = (refl, refl)
both true false e = absurd (let g : false ≡ true = e in cc)
both false b e = absurd (let g : false ≡ true = e in cc)

not_true : (b : Bool) → not b ≡ true → b ≡ false
not_true false e = refl
not_true true e = absurd (let g : false ≡ true = e in cc)

out_if : (b : Bool) (o : Option Request) (request : Request) → cond b o None ≡ Some request → o ≡ Some request
out_if true o request e = e
out_if false o request e = absurd (none-some request e)

there_open : (found : Option LinkState) (T : Type 0) → is_open_link found ≡ true → ((one : LinkState) → found ≡ Some one → T) → T
there_open None T e step = absurd (let g : false ≡ true = e in cc)
there_open (Some one) T e step = step one refl

module _ {Config Node : Type 0} (w : CoreState Config Node) (change device link : ℕ) (links : WireState) (one : LinkState) (T : Type 0)
    (step : (slot : SlotState) → slice_get w.slots (change - 1) ≡ Some slot → (side : SideState) → slice_get slot.sides (device - 1) ≡ Some side
    → links ≡ side.wire → T) where
  none_there : (b : Bool) → cond b None (slice_get {X = LinkState} [] (link - 1)) ≡ Some one → T
  none_there true e = absurd (none-some one e)
  none_there false e = absurd (none-some one e)

  by_side : (slot : SlotState) → slice_get w.slots (change - 1) ≡ Some slot → (side : Option SideState) → slice_get slot.sides (device - 1) ≡ side
      → links ≡ wire_of_side side → link_at (wire_of_side side) link ≡ Some one → T
  by_side slot there None at_side same at_link = none_there (link == 0) at_link
  by_side slot there (Some side) at_side same at_link = step slot there side at_side same

  by_slot : (found : Option SlotState) → slice_get w.slots (change - 1) ≡ found → links ≡ wire_of device found
      → link_at (wire_of device found) link ≡ Some one → T
  by_slot None there same at_link = none_there (link == 0) at_link
  by_slot (Some slot) there same at_link = by_side slot there (slice_get slot.sides (device - 1)) refl same at_link

module _ {Config Node : Type 0} (w : CoreState Config Node) (change device link : ℕ) (a : IsLink w change device link) (happens : WireState → WireState)
    (T : ManagerState → Type 0) where
  -- what happens on it
  wires_there : T (with_slot (manager_in w) change (wires_on happens a.slot device (Some a.side)))
      → T (wires_in (manager_in w) change device happens (slot_at (manager_in w) change))
  wires_there now =
      subst (λ found. T (wires_in (manager_in w) change device happens found)) (sym a.there)
      (subst (λ found. T (with_slot (manager_in w) change (wires_on happens a.slot device found))) (sym a.at_side) now)

-- ---- the world

module _ {Config TheEdit Node : Type 0} (m : Meaning Config TheEdit Node) (setting : Setting TheEdit) (w : CoreState Config Node)
    (G : Event → Came Config Node → Type 0) (cases : Cases m setting w G) where
  abbrev state : ManagerState
  state = manager_in w

  -- ---- the manager

  -- an entry comes, where it may
  entering : (event : Event) (entry : Entry) (what : Action) (now : ManagerState)
      → (may_follow w.entries entry ≡ true → G event (by_manager w (record { action = what; state = now })))
      → G event (by_manager w (enters state entry what now))
  entering event entry what now moves =
      cond_both (may_follow w.entries entry) (record { action = what; state = now }) (manager.idle state) (λ (step : Step). G event (by_manager w step))
      moves (λ _. cases.nothing event)

  module _ (change : ℕ) (numbered : 1 ≤ change) where
    submits_by : (plan : Option ChangePlan) → slice_get setting.plans (change - 1) ≡ plan → G (Submit change) (by_manager w (submitted_by state change plan))
    submits_by None planned = cases.nothing (Submit change)
    submits_by (Some plan) planned =
        entering (Submit change) (start_of change plan) action.Started (with_entry state (start_of change plan))
        (cases.starts change numbered plan planned)

    -- one action
    module _ (ready : is_ready_in w.entries change ≡ true) (slot : SlotState) (there : slice_get w.slots (change - 1) ≡ Some slot) where
      abbrev own_slot : IsSlot w change
      own_slot = record { numbered = numbered; slot = slot; there = there }

      sends_by : (device : ℕ) (what : Ask) → next_action slot.course ≡ next.Send device what → (plan : Option ChangePlan)
          → slice_get setting.plans (change - 1) ≡ plan
          → G (Turn change) (by_manager w (sent_by state change plan (Some slot) device what))
      sends_by device what acts_so None planned = cases.nothing (Turn change)
      sends_by device what acts_so (Some plan) planned =
          cases.sends_out change (record { numbered = numbered; plan = plan; planned = planned; slot = slot; there = there }) ready device what acts_so

      acts_by : (what : NextAction) → next_action slot.course ≡ what
          → G (Turn change) (by_manager w (acts setting.plans state change what))
      acts_by next.Wait acts_so = cases.nothing (Turn change)
      acts_by (next.Send device what) acts_so =
          subst (λ found. G (Turn change) (by_manager w (sent_by state change (slice_get setting.plans (change - 1)) found device what))) (sym there)
          (sends_by device what acts_so (slice_get setting.plans (change - 1)) refl)
      acts_by (next.Decide v) acts_so =
          subst (λ found. G (Turn change) (by_manager w (decided_by state change v found))) (sym there)
          (entering (Turn change) (Decided change v) (action.Decided v) (with_slot (with_entry state (Decided change v)) change (decided slot v))
          (cases.decides change own_slot ready v acts_so))
      acts_by (next.Finish kept) acts_so =
          entering (Turn change) (Ended change kept) action.Ended (with_entry state (Ended change kept)) (cases.finishes change own_slot ready kept acts_so)

    turns_by : is_ready_in w.entries change ≡ true → (found : Option SlotState) → slice_get w.slots (change - 1) ≡ found
        → G (Turn change) (by_manager w (turned_by setting.plans state change found))
    turns_by ready None there = cases.nothing (Turn change)
    turns_by ready (Some slot) there = acts_by ready slot there (next_action slot.course) refl

    turns_if : (b : Bool) → is_ready_in w.entries change ≡ b
        → G (Turn change) (by_manager w (if b then turned_by setting.plans state change (slot_at state change) else manager.idle state))
    turns_if true ready = turns_by ready (slice_get w.slots (change - 1)) refl
    turns_if false ready = cases.nothing (Turn change)

    -- what comes to one change set
    hears_now : (device link number : ℕ) → 1 ≤ device → G (Answer change device link number) (by_manager w (received state change device link number))
    hears_now device link number known =
        slot_reached (receives_pair device link number) state change device (λ (step : Step). G (Answer change device link number) (by_manager w step))
        (cases.nothing (Answer change device link number))
        (λ slot there. cases.hears change device link number (record { numbered = numbered; slot = slot; there = there }) known)

    breaks_now : (device : ℕ) → 1 ≤ device → G (Break change device) (by_manager w (broken state change device))
    breaks_now device known =
        slot_reached (breaks_pair device) state change device (λ (step : Step). G (Break change device) (by_manager w step))
        (cases.nothing (Break change device))
        (λ slot there. cases.breaks_off change device (record { numbered = numbered; slot = slot; there = there }) known)

    forgets_by : is_started change w.entries ≡ true → is_ended_in change w.entries ≡ false → (plan : Option ChangePlan)
        → slice_get setting.plans (change - 1) ≡ plan → (found : Option SlotState) → slice_get w.slots (change - 1) ≡ found
        → G (Forget change) (by_manager w (forgotten_by state change plan found))
    forgets_by begun going None planned found there = cases.nothing (Forget change)
    forgets_by begun going (Some plan) planned None there = cases.nothing (Forget change)
    forgets_by begun going (Some plan) planned (Some slot) there =
        cases.forgets change (record { numbered = numbered; plan = plan; planned = planned; slot = slot; there = there }) begun going

    forgets_now : G (Forget change) (by_manager w (manager.forgotten setting.plans state change))
    forgets_now =
        cond_both (is_started change w.entries && not (is_ended_in change w.entries)) (forgotten_by state change (slice_get setting.plans (change - 1)) (slot_at state change))
        (manager.idle state) (λ (step : Step). G (Forget change) (by_manager w step))
        (λ goes.
        let going = both (is_started change w.entries) (not (is_ended_in change w.entries)) goes in
        forgets_by going.0 (not_true (is_ended_in change w.entries) going.1) (slice_get setting.plans (change - 1)) refl (slice_get w.slots (change - 1)) refl)
        (λ _. cases.nothing (Forget change))

    module _ (device : ℕ) (known : 1 ≤ device) where
      renews_by : is_ready_in w.entries change ≡ true → (plan : Option ChangePlan) → slice_get setting.plans (change - 1) ≡ plan
          → (found : Option SlotState) → slice_get w.slots (change - 1) ≡ found
          → G (Renew change device) (by_manager w (renewed_by state change device plan found))
      renews_by ready None planned found there = cases.nothing (Renew change device)
      renews_by ready (Some plan) planned None there = cases.nothing (Renew change device)
      renews_by ready (Some plan) planned (Some slot) there =
          cases.renews_timer change device (record { numbered = numbered; plan = plan; planned = planned; slot = slot; there = there }) known ready

      renews_now : G (Renew change device) (by_manager w (manager.renewed setting.plans state change device))
      renews_now =
          cond_both (is_ready_in w.entries change) (renewed_by state change device (slice_get setting.plans (change - 1)) (slot_at state change)) (manager.idle state)
          (λ (step : Step). G (Renew change device) (by_manager w step))
          (λ ready. renews_by ready (slice_get setting.plans (change - 1)) refl (slice_get w.slots (change - 1)) refl) (λ _. cases.nothing (Renew change device))

  -- ---- a device and a link

  module _ (change device link : ℕ) (numbered : 1 ≤ change) where
    abbrev links : WireState
    links = wire_in state change device

    module _ (r : RecordedState Config Node) (here : slice_get w.devices (device - 1) ≡ Some r) where
      -- a link that is there, as one of its own side
      abbrev linked : (one : LinkState) → link_at links link ≡ Some one → (slot : SlotState) → slice_get w.slots (change - 1) ≡ Some slot
          → (side : SideState) → slice_get slot.sides (device - 1) ≡ Some side → links ≡ side.wire → IsLink w change device link
      linked one at_link slot there side at_side same = record {
        numbered = numbered;
        slot = slot;
        there = there;
        side = side;
        at_side = at_side;
        one = one;
        at_link = subst (λ wire. link_at wire link ≡ Some one) same at_link;
        r = r;
        here = here;
      }

      session_is : (one : LinkState) → link_at links link ≡ Some one → (session : Option ℕ) → session_at links link ≡ session → session_of one ≡ session
      session_is one at_link session e = sym (ap (option_and_then session_of) at_link) ∙ e

      -- its request is done

      module _ (request : Request) (out : outstanding_at links link ≡ Some request) where
        abbrev After : (event : DeviceEvent) → Answers m setting r event → ManagerState → Type 0
        After event d now =
            G (Deliver change device link) (came (with_manager (with_device w device (recorded_with r event d.h)) now) (happened.Replied d.reply d.h.undone))

        abbrev Told : (event : DeviceEvent) → Answers m setting r event → Type 0
        Told event d = After event d (told_on state change device link d.reply)

        asks_now : opening_user request ≡ None → (u : ℕ) → session_at links link ≡ Some u → (d : Answers m setting r (Asked u request)) → Told (Asked u request) d
        asks_now plain u session d =
            there_out (link_at links link) request (Told (Asked u request) d) out
            (λ one at_link.
            by_slot w change device link links one (Told (Asked u request) d)
            (λ slot there side at_side same.
            let a = linked one at_link slot there side at_side same in
            wires_there w change device link a (told_wire link d.reply) (After (Asked u request) d)
            (cases.tells change device link a request (subst (λ wire. outstanding_at wire link ≡ Some request) same out) plain u
            (session_is one at_link (Some u) session) d)) (slice_get w.slots (change - 1)) refl refl at_link)

        opens_now : (user : List ℕ) → request ≡ OpenSession user → (d : Answers m setting r (Entered user)) → Told (Entered user) d
        opens_now user opening d =
            there_out (link_at links link) request (Told (Entered user) d) out
            (λ one at_link.
            by_slot w change device link links one (Told (Entered user) d)
            (λ slot there side at_side same.
            let a = linked one at_link slot there side at_side same in
            wires_there w change device link a (told_wire link d.reply) (After (Entered user) d)
            (cases.opens change device link a user (subst (λ wire. outstanding_at wire link ≡ Some (OpenSession user)) same (out ∙ ap Some opening)) d))
            (slice_get w.slots (change - 1)) refl refl at_link)

        does_now : G (Deliver change device link) (met w device (told_by state change device link (served m setting.tables r (session_at links link) request)))
        does_now =
            serves m setting r request (λ now. G (Deliver change device link) (met w device (told_by state change device link now)))
            (cases.nothing (Deliver change device link)) (session_at links link) opens_now asks_now

      does_by : (request : Option Request) → undelivered r links link ≡ request
          → G (Deliver change device link) (met w device (does m setting.tables r state change device link (session_at links link) request))
      does_by None e = cases.nothing (Deliver change device link)
      does_by (Some request) e = does_now request (out_if (is_session_open r (session_at links link)) (outstanding_at links link) request e)

      -- its session is lost

      abbrev Cut : RecordedState Config Node → Bool → ManagerState → Type 0
      Cut after undone now = G (Lose change device link) (came (with_manager (with_device w device after) now) (happened.Lost undone))

      module _ (opened : is_side_open r links link ≡ true) where
        loses_now : (session : ℕ) → session_at links link ≡ Some session → (h : Happened Config Node) → Happens m setting.tables r.device (Lost session) h
            → Cut (recorded_with r (Lost session) h) h.undone (lost_on state change device link)
        loses_now session is h happens =
            there_open (link_at links link) (Cut (recorded_with r (Lost session) h) h.undone (lost_on state change device link))
            (both (is_open_at links link) (is_session_open r (session_at links link)) opened).0
            (λ one at_link.
            by_slot w change device link links one (Cut (recorded_with r (Lost session) h) h.undone (lost_on state change device link))
            (λ slot there side at_side same.
            let a = linked one at_link slot there side at_side same in
            wires_there w change device link a (lost_wire link) (Cut (recorded_with r (Lost session) h) h.undone)
            (cases.loses_session change device link a (subst (λ wire. is_side_open r wire link ≡ true) same opened) session
            (session_is one at_link (Some session) is) h happens)) (slice_get w.slots (change - 1)) refl refl at_link)

        closes_now : session_at links link ≡ None → Cut r false (lost_on state change device link)
        closes_now is =
            there_open (link_at links link) (Cut r false (lost_on state change device link))
            (both (is_open_at links link) (is_session_open r (session_at links link)) opened).0
            (λ one at_link.
            by_slot w change device link links one (Cut r false (lost_on state change device link))
            (λ slot there side at_side same.
            let a = linked one at_link slot there side at_side same in
            wires_there w change device link a (lost_wire link) (Cut r false)
            (subst (λ devices. G (Lose change device link) (came (with_manager (record w { devices = devices })
            (with_slot state change (wires_on (lost_wire link) slot device (Some side)))) (happened.Lost false)))
            (sym (set_same w.devices (device - 1) r here))
            (cases.closes change device link a (subst (λ wire. is_side_open r wire link ≡ true) same opened) (session_is one at_link None is))))
            (slice_get w.slots (change - 1)) refl refl at_link)

        ends_now : (session : Option ℕ) → session_at links link ≡ session → G (Lose change device link) (met w device (loses m r state change device link session))
        ends_now None is = closes_now is
        ends_now (Some session) is =
            parts m setting r session (λ now. G (Lose change device link) (met w device (lost_by state change device link now)))
            (cases.nothing (Lose change device link)) (loses_now session is)

    delivers_by : (found : Option (RecordedState Config Node)) → slice_get w.devices (device - 1) ≡ found
        → G (Deliver change device link) (met w device (delivering_at m setting.tables state change device link found))
    delivers_by None here = cases.nothing (Deliver change device link)
    delivers_by (Some r) here = does_by r here (undelivered r links link) refl

    loses_by : (found : Option (RecordedState Config Node)) → slice_get w.devices (device - 1) ≡ found
        → G (Lose change device link) (met w device (losing_at m state change device link found))
    loses_by None here = cases.nothing (Lose change device link)
    loses_by (Some r) here =
        cond_both (is_side_open r links link) (loses m r state change device link (session_at links link)) None
        (λ (now : Option (Meeting Config Node)). G (Lose change device link) (met w device now))
        (λ opened. ends_now r here opened (session_at links link) refl) (λ _. cases.nothing (Lose change device link))

  -- ---- a device alone

  restarts_by : (device : ℕ) (found : Option (RecordedState Config Node)) → slice_get w.devices (device - 1) ≡ found
      → G (Restart device) (met w device (anew_at m state device found))
  restarts_by device None here = cases.nothing (Restart device)
  restarts_by device (Some r) here = cases.restarts device r here

  passes_by : (device seconds : ℕ) (found : Option (RecordedState Config Node)) → slice_get w.devices (device - 1) ≡ found
      → G (Advance device seconds) (moved w device (later_at m seconds found))
  passes_by device seconds None here = cases.nothing (Advance device seconds)
  passes_by device seconds (Some r) here = cases.passes device seconds r here

  -- ---- operators

  module _ (number device : ℕ) where
    module _ (operator : List (Option ℕ)) (there : slice_get w.operators (number - 1) ≡ Some operator) (r : RecordedState Config Node)
        (here : slice_get w.devices (device - 1) ≡ Some r) where
      abbrev acting : IsOperating w number device
      acting = record { operator = operator; there = there; r = r; here = here }

      enters_now : (request : Request) → IsOwnOpening setting number request → has_on operator r (device - 1) ≡ None → (user : List ℕ)
          → request ≡ OpenSession user → (d : Answers m setting r (Entered user))
          → G (Foreign number device request) (asked_by w number device (answered_to operator (device - 1)
          (Some (record { reply = d.reply; undone = d.h.undone; after = recorded_with r (Entered user) d.h }))))
      enters_now request own free user opening d =
          subst (λ one. G (Foreign number device one) (asked_by w number device (answered_to operator (device - 1)
          (Some (record { reply = d.reply; undone = d.h.undone; after = recorded_with r (Entered user) d.h }))))) (sym opening)
          (cases.enters number device acting user (subst (IsOwnOpening setting number) opening own) free d)

      asks_if : (request : Request) → IsOwnOpening setting number request → (is_opening request && is_some (has_on operator r (device - 1))) ≡ false
          → G (Foreign number device request) (asked_by w number device (answered_to operator (device - 1) (served m setting.tables r (has_on operator r (device - 1)) request)))
      asks_if request own may =
          serves m setting r request (λ now. G (Foreign number device request) (asked_by w number device (answered_to operator (device - 1) now)))
          (cases.nothing (Foreign number device request)) (has_on operator r (device - 1))
          (λ user opening. enters_now request own (none_had (is_opening request) (has_on operator r (device - 1)) (ap is_opening opening) may) user opening)
          (λ plain u has d.
          let had = has_by r (given_on operator (device - 1)) u has in
          cases.asks number device acting request plain u had.0 had.1 d)

      asks_now_by : (request : Request) → IsOwnOpening setting number request
          → G (Foreign number device request) (asked_by w number device (asks_with m setting.tables r operator (device - 1) request (has_on operator r (device - 1))))
      asks_now_by request own =
          cond_both (is_opening request && is_some (has_on operator r (device - 1))) None
          (answered_to operator (device - 1) (served m setting.tables r (has_on operator r (device - 1)) request))
          (λ (now : Option (Asking Config Node)). G (Foreign number device request) (asked_by w number device now))
          (λ _. cases.nothing (Foreign number device request)) (asks_if request own)

      leaves_now : (session : Option ℕ) → has_on operator r (device - 1) ≡ session → G (Leave number device) (moved w device (left_with m r session))
      leaves_now None has = cases.nothing (Leave number device)
      leaves_now (Some session) has =
          let had = has_by r (given_on operator (device - 1)) session has in
          parts m setting r session (λ now. G (Leave number device) (moved w device (parted_by now))) (cases.nothing (Leave number device))
          (cases.leaves number device acting session had.0 had.1)

    asks_by : (request : Request) → IsOwnOpening setting number request → (operator : Option (List (Option ℕ))) → operator_at w.operators number ≡ operator
        → (found : Option (RecordedState Config Node)) → slice_get w.devices (device - 1) ≡ found
        → G (Foreign number device request) (asked_by w number device (asking_at m setting.tables device request operator found))
    asks_by request own None there found here = cases.nothing (Foreign number device request)
    asks_by request own (Some operator) there None here = cases.nothing (Foreign number device request)
    asks_by request own (Some operator) there (Some r) here = asks_now_by operator (operator_there w.operators number operator there) r here request own

    leaves_by : (operator : Option (List (Option ℕ))) → operator_at w.operators number ≡ operator → (found : Option (RecordedState Config Node))
        → slice_get w.devices (device - 1) ≡ found → G (Leave number device) (moved w device (leaving_at m device operator found))
    leaves_by None there found here = cases.nothing (Leave number device)
    leaves_by (Some operator) there None here = cases.nothing (Leave number device)
    leaves_by (Some operator) there (Some r) here =
        leaves_now operator (operator_there w.operators number operator there) r here (has_on operator r (device - 1)) refl

  -- ---- every event

  pub comes : (event : Event) → IsGiven setting event → G event (elementary m setting w event)
  comes (Submit change) given = submits_by change given (slice_get setting.plans (change - 1)) refl
  comes (Turn change) given = turns_if change given (is_ready_in w.entries change) refl
  comes (Deliver change device link) given = delivers_by change device link given (slice_get w.devices (device - 1)) refl
  comes (Answer change device link number) given = hears_now change given.0 device link number given.1
  comes (Break change device) given = breaks_now change given.0 device given.1
  comes (Lose change device link) given = loses_by change device link given (slice_get w.devices (device - 1)) refl
  comes (Advance device seconds) given = passes_by device seconds (slice_get w.devices (device - 1)) refl
  comes (Restart device) given = restarts_by device (slice_get w.devices (device - 1)) refl
  comes (Forget change) given = forgets_now change given
  comes Crash given = cases.crashes
  comes (Renew change device) given = renews_now change given.0 device given.1
  comes (Foreign number device request) given = asks_by number device request given (operator_at w.operators number) refl (slice_get w.devices (device - 1)) refl
  comes (Leave number device) given = leaves_by number device (operator_at w.operators number) refl (slice_get w.devices (device - 1)) refl
  comes (Round change turns) given = cases.nothing (Round change turns)
