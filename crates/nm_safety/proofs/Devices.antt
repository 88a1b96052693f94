-- What everything that happens at a device keeps, every event of the world keeps of all of them.
use Rattle.std.proofs.Common.{◌≡◌, ℕ, zero, suc, ◌-◌, List, [], ◌∷◌, ◌&&◌, is_some, Option, Some, None, IfSome, slice_get, refl, sym, ap, ◌∙◌, subst}
use Rattle.std.proofs.lemmas.Bool.{cond_both}
use Rattle.std.proofs.lemmas.Option.{same_Some, none-some}
use Rattle.nm_proto.specs.Content.{Meaning, TablesState}
use Rattle.nm_proto.specs.declared.message.Request.{Request}
use Rattle.nm_proto.specs.declared.plan.Event.{Event}
use Rattle.nm_proto.specs.declared.plan.Event.TheVariants.{Submit, Turn, Deliver, Answer, Break, Lose, Advance, Restart, Forget, Crash, Renew, Foreign, Leave, Round}
use Rattle.nm_history.specs.declared.event.DeviceEvent.{DeviceEvent}
use Rattle.nm_history.specs.declared.event.DeviceEvent.TheVariants as device_event
use Rattle.nm_history.specs.History.{Happened, RecordedState, Served, Parted, recorded_with, served, lost, loss_of, parted_as, restarting, advancing}
use Rattle.nm_history.proofs.Histories.{is_served}
use Rattle.nm_device.specs.Table.{is_opening}
use Rattle.nm_device_laws.specs.Moment.{Happens}
use Rattle.nm_manager.specs.Manager.{ManagerState, wire_in}
use Rattle.nm_wire.specs.Wire.{session_at}
use Rattle.nm_world.specs.declared.happened.Sending.{Sending}
use Rattle.nm_world.specs.World.{Setting, CoreState, WorldState, Came, Meeting, Moved, Asking, device_at, manager_in, met, moved, asked_by, told_by, lost_by, loses, losing_at, is_side_open, undelivered, does, delivering_at, anew_at, later_at, answered_to, asking_at, operator_at, has_on, parted_by, left_with, leaving_at, elementary, world_step, core_of, sending_of, replies_on, followed, round, rounds, event_step, run}
use Rattle.nm_safety.proofs.Lists.{at_set}

-- ---- a session is lost

pub record IsLost {Config TheEdit Node : Type 0} (m : Meaning Config TheEdit Node) (tables : TablesState TheEdit) (r : RecordedState Config Node) (session : ℕ) (parted : Parted Config Node) : Type 0 where
  pub h : Happened Config Node
  pub happens : Happens m tables r.device (device_event.Lost session) h
  pub after_is : parted.after ≡ recorded_with r (device_event.Lost session) h

module _ {Config TheEdit Node : Type 0} (m : Meaning Config TheEdit Node) (tables : TablesState TheEdit) (r : RecordedState Config Node) (session : ℕ) (parted : Parted Config Node) where
  lost_as : (done : Option (Happened Config Node)) → loss_of m r.device session ≡ done → parted_as r (device_event.Lost session) done ≡ Some parted → IsLost m tables r session parted
  lost_as None happens e = absurd (none-some parted e)
  lost_as (Some h) happens e =
      let made : Parted Config Node = record { undone = h.undone; after = recorded_with r (device_event.Lost session) h } in
      record { h = h; happens = happens; after_is = sym (ap (λ (now : Parted Config Node). now.after) (same_Some made parted e)) }

  pub is_lost : lost m r session ≡ Some parted → IsLost m tables r session parted
  is_lost e = lost_as (loss_of m r.device session) refl e

-- ---- what happens at one device

module _ {Config TheEdit Node : Type 0} (m : Meaning Config TheEdit Node) (setting : Setting TheEdit) (P : ℕ → RecordedState Config Node → Type 0)
    (step : (place : ℕ) (r : RecordedState Config Node) (event : DeviceEvent) (h : Happened Config Node) → Happens m setting.tables r.device event h → P place r → P place (recorded_with r event h)) where
  abbrev AllAt : List (RecordedState Config Node) → Type 0
  AllAt devices = (place : ℕ) → IfSome (slice_get devices place) (P place)

  abbrev AfterMeeting : ℕ → Option (Meeting Config Node) → Type 0
  AfterMeeting place met = IfSome met (λ (now : Meeting Config Node). P place now.device)

  abbrev AfterMove : ℕ → Option (Moved Config Node) → Type 0
  AfterMove place moved = IfSome moved (λ (now : Moved Config Node). P place now.device)

  abbrev AfterAsking : ℕ → Option (Asking Config Node) → Type 0
  AfterAsking place asked = IfSome asked (λ (now : Asking Config Node). P place now.device)

  served_keeps : (place : ℕ) (r : RecordedState Config Node) (session : Option ℕ) (request : Request) (s : Served Config Node) → served m setting.tables r session request ≡ Some s → P place r → P place s.after
  served_keeps place r session request s e p =
      let is = is_served m setting.tables r session request s e in
      subst (P place) (sym is.after_is) (step place r is.event is.h is.happens p)

  parted_keeps : (place : ℕ) (r : RecordedState Config Node) (session : ℕ) (parted : Parted Config Node) → lost m r session ≡ Some parted → P place r → P place parted.after
  parted_keeps place r session parted e p =
      let is = is_lost m setting.tables r session parted e in
      subst (P place) (sym is.after_is) (step place r (device_event.Lost session) is.h is.happens p)

  -- ---- a device and the manager's links to it

  told_keeps : (place : ℕ) (r : RecordedState Config Node) (state : ManagerState) (change device link : ℕ) (session : Option ℕ) (request : Request) (s : Option (Served Config Node)) → served m setting.tables r session request ≡ s
      → P place r → AfterMeeting place (told_by state change device link s)
  told_keeps place r state change device link session request None e p = tt
  told_keeps place r state change device link session request (Some s) e p = served_keeps place r session request s e p

  does_keeps : (place : ℕ) (r : RecordedState Config Node) (state : ManagerState) (change device link : ℕ) (session : Option ℕ) (request : Option Request) → P place r
      → AfterMeeting place (does m setting.tables r state change device link session request)
  does_keeps place r state change device link session None p = tt
  does_keeps place r state change device link session (Some request) p = told_keeps place r state change device link session request (served m setting.tables r session request) refl p

  delivering_keeps : (place : ℕ) (state : ManagerState) (change device link : ℕ) (found : Option (RecordedState Config Node)) → IfSome found (P place) → AfterMeeting place (delivering_at m setting.tables state change device link found)
  delivering_keeps place state change device link None p = tt
  delivering_keeps place state change device link (Some r) p =
      let links = wire_in state change device in does_keeps place r state change device link (session_at links link) (undelivered r links link) p

  lost_keeps : (place : ℕ) (r : RecordedState Config Node) (state : ManagerState) (change device link session : ℕ) (parted : Option (Parted Config Node)) → lost m r session ≡ parted → P place r
      → AfterMeeting place (lost_by state change device link parted)
  lost_keeps place r state change device link session None e p = tt
  lost_keeps place r state change device link session (Some parted) e p = parted_keeps place r session parted e p

  loses_keeps : (place : ℕ) (r : RecordedState Config Node) (state : ManagerState) (change device link : ℕ) (session : Option ℕ) → P place r → AfterMeeting place (loses m r state change device link session)
  loses_keeps place r state change device link None p = p
  loses_keeps place r state change device link (Some session) p = lost_keeps place r state change device link session (lost m r session) refl p

  losing_keeps : (place : ℕ) (state : ManagerState) (change device link : ℕ) (found : Option (RecordedState Config Node)) → IfSome found (P place) → AfterMeeting place (losing_at m state change device link found)
  losing_keeps place state change device link None p = tt
  losing_keeps place state change device link (Some r) p =
      let links = wire_in state change device in
      cond_both (is_side_open r links link) (loses m r state change device link (session_at links link)) None (AfterMeeting place)
      (λ _. loses_keeps place r state change device link (session_at links link) p) (λ _. tt)

  anew_keeps : (place : ℕ) (state : ManagerState) (device : ℕ) (found : Option (RecordedState Config Node)) → IfSome found (P place) → AfterMeeting place (anew_at m state device found)
  anew_keeps place state device None p = tt
  anew_keeps place state device (Some r) p = step place r device_event.Restarted (restarting m r.device) refl p

  -- ---- a device alone, and an operator

  later_keeps : (place seconds : ℕ) (found : Option (RecordedState Config Node)) → IfSome found (P place) → AfterMove place (later_at m seconds found)
  later_keeps place seconds None p = tt
  later_keeps place seconds (Some r) p = step place r (device_event.Advanced seconds) (advancing m r.device seconds) refl p

  answered_keeps : (place : ℕ) (r : RecordedState Config Node) (operator : List (Option ℕ)) (at : ℕ) (session : Option ℕ) (request : Request) (s : Option (Served Config Node)) → served m setting.tables r session request ≡ s
      → P place r → AfterAsking place (answered_to operator at s)
  answered_keeps place r operator at session request None e p = tt
  answered_keeps place r operator at session request (Some s) e p = served_keeps place r session request s e p

  asking_keeps : (place device : ℕ) (request : Request) (operator : Option (List (Option ℕ))) (found : Option (RecordedState Config Node)) → IfSome found (P place) → AfterAsking place (asking_at m setting.tables device request operator found)
  asking_keeps place device request None found p = tt
  asking_keeps place device request (Some operator) None p = tt
  asking_keeps place device request (Some operator) (Some r) p =
      let session = has_on operator r (device - 1) in
      cond_both (is_opening request && is_some session) None (answered_to operator (device - 1) (served m setting.tables r session request)) (AfterAsking place)
      (λ _. tt) (λ _. answered_keeps place r operator (device - 1) session request (served m setting.tables r session request) refl p)

  parted_by_keeps : (place : ℕ) (r : RecordedState Config Node) (session : ℕ) (parted : Option (Parted Config Node)) → lost m r session ≡ parted → P place r → AfterMove place (parted_by parted)
  parted_by_keeps place r session None e p = tt
  parted_by_keeps place r session (Some parted) e p = parted_keeps place r session parted e p

  left_keeps : (place : ℕ) (r : RecordedState Config Node) (session : Option ℕ) → P place r → AfterMove place (left_with m r session)
  left_keeps place r None p = tt
  left_keeps place r (Some session) p = parted_by_keeps place r session (lost m r session) refl p

  leaving_keeps : (place device : ℕ) (operator : Option (List (Option ℕ))) (found : Option (RecordedState Config Node)) → IfSome found (P place) → AfterMove place (leaving_at m device operator found)
  leaving_keeps place device None found p = tt
  leaving_keeps place device (Some operator) None p = tt
  leaving_keeps place device (Some operator) (Some r) p = left_keeps place r (has_on operator r (device - 1)) p

  -- ---- the world

  abbrev LeavesAll : Came Config Node → Type 0
  LeavesAll c = AllAt c.after.devices

  met_keeps : (w : CoreState Config Node) (device : ℕ) (met_now : Option (Meeting Config Node)) (found : Option (RecordedState Config Node)) → slice_get w.devices (device - 1) ≡ found
      → (found ≡ None → met_now ≡ None) → AfterMeeting (device - 1) met_now → AllAt w.devices → LeavesAll (met w device met_now)
  met_keeps w device None found there none p all = all
  met_keeps w device (Some now) None there none p all = absurd (none-some now (sym (none refl)))
  met_keeps w device (Some now) (Some r) there none p all = at_set P w.devices (device - 1) r now.device there p all

  moved_keeps : (w : CoreState Config Node) (device : ℕ) (moved_now : Option (Moved Config Node)) (found : Option (RecordedState Config Node)) → slice_get w.devices (device - 1) ≡ found
      → (found ≡ None → moved_now ≡ None) → AfterMove (device - 1) moved_now → AllAt w.devices → LeavesAll (moved w device moved_now)
  moved_keeps w device None found there none p all = all
  moved_keeps w device (Some now) None there none p all = absurd (none-some now (sym (none refl)))
  moved_keeps w device (Some now) (Some r) there none p all = at_set P w.devices (device - 1) r now.device there p all

  asked_keeps : (w : CoreState Config Node) (number device : ℕ) (asked : Option (Asking Config Node)) (found : Option (RecordedState Config Node)) → slice_get w.devices (device - 1) ≡ found
      → (found ≡ None → asked ≡ None) → AfterAsking (device - 1) asked → AllAt w.devices → LeavesAll (asked_by w number device asked)
  asked_keeps w number device None found there none p all = all
  asked_keeps w number device (Some now) None there none p all = absurd (none-some now (sym (none refl)))
  asked_keeps w number device (Some now) (Some r) there none p all = at_set P w.devices (device - 1) r now.device there p all

  nobody_asks : (device : ℕ) (request : Request) (operator : Option (List (Option ℕ))) → asking_at m setting.tables device request operator None ≡ None
  nobody_asks device request None = refl
  nobody_asks device request (Some operator) = refl

  nobody_leaves : (device : ℕ) (operator : Option (List (Option ℕ))) → leaving_at m device operator None ≡ None
  nobody_leaves device None = refl
  nobody_leaves device (Some operator) = refl

  came_keeps : (w : CoreState Config Node) (event : Event) → AllAt w.devices → LeavesAll (elementary m setting w event)
  came_keeps w (Submit change) all = all
  came_keeps w (Turn change) all = all
  came_keeps w (Answer change device link number) all = all
  came_keeps w (Break change device) all = all
  came_keeps w (Forget change) all = all
  came_keeps w Crash all = all
  came_keeps w (Renew change device) all = all
  came_keeps w (Round change turns) all = all
  came_keeps w (Deliver change device link) all =
      met_keeps w device (delivering_at m setting.tables (manager_in w) change device link (device_at w device)) (device_at w device) refl
      (λ none. ap (delivering_at m setting.tables (manager_in w) change device link) none) (delivering_keeps (device - 1) (manager_in w) change device link (device_at w device) (all (device - 1))) all
  came_keeps w (Lose change device link) all =
      met_keeps w device (losing_at m (manager_in w) change device link (device_at w device)) (device_at w device) refl
      (λ none. ap (losing_at m (manager_in w) change device link) none) (losing_keeps (device - 1) (manager_in w) change device link (device_at w device) (all (device - 1))) all
  came_keeps w (Restart device) all =
      met_keeps w device (anew_at m (manager_in w) device (device_at w device)) (device_at w device) refl
      (λ none. ap (anew_at m (manager_in w) device) none) (anew_keeps (device - 1) (manager_in w) device (device_at w device) (all (device - 1))) all
  came_keeps w (Advance device seconds) all =
      moved_keeps w device (later_at m seconds (device_at w device)) (device_at w device) refl
      (λ none. ap (later_at m seconds) none) (later_keeps (device - 1) seconds (device_at w device) (all (device - 1))) all
  came_keeps w (Foreign number device request) all =
      asked_keeps w number device (asking_at m setting.tables device request (operator_at w.operators number) (device_at w device)) (device_at w device) refl
      (λ none. ap (asking_at m setting.tables device request (operator_at w.operators number)) none ∙ nobody_asks device request (operator_at w.operators number))
      (asking_keeps (device - 1) device request (operator_at w.operators number) (device_at w device) (all (device - 1))) all
  came_keeps w (Leave number device) all =
      moved_keeps w device (leaving_at m device (operator_at w.operators number) (device_at w device)) (device_at w device) refl
      (λ none. ap (leaving_at m device (operator_at w.operators number)) none ∙ nobody_leaves device (operator_at w.operators number))
      (leaving_keeps (device - 1) device (operator_at w.operators number) (device_at w device) (all (device - 1))) all

  abbrev AllIn : WorldState Config Node → Type 0
  AllIn w = AllAt w.devices

  pub one_keeps : (w : WorldState Config Node) (event : Event) → AllIn w → AllIn (world_step m setting w event)
  one_keeps w event all = came_keeps (core_of w) event all

  followed_keeps : (w : WorldState Config Node) (change : ℕ) (sending : Option Sending) → AllIn w → AllIn (followed m setting w change sending)
  followed_keeps w change None all = all
  followed_keeps w change (Some sending) all =
      let v = world_step m setting w (Deliver change sending.device sending.link) in
      one_keeps v (Answer change sending.device sending.link (replies_on (wire_in (manager_in (core_of v)) change sending.device) sending.link)) (one_keeps w (Deliver change sending.device sending.link) all)

  rounds_keep : (n : ℕ) (w : WorldState Config Node) (change : ℕ) → AllIn w → AllIn (rounds m setting n w change)
  rounds_keep zero w change all = all
  rounds_keep (suc n) w change all =
      rounds_keep n (round m setting w change) change
      (followed_keeps (world_step m setting w (Turn change)) change (sending_of (elementary m setting (core_of w) (Turn change)).happened) (one_keeps w (Turn change) all))

  step_keeps : (w : WorldState Config Node) (event : Event) → AllIn w → AllIn (event_step m setting w event)
  step_keeps w (Round change turns) all = rounds_keep turns w change all
  step_keeps w event all = one_keeps w event all

  pub run_keeps : (w : WorldState Config Node) (events : List Event) → AllIn w → AllIn (run m setting w events)
  run_keeps w [] all = all
  run_keeps w (event ∷ events) all = run_keeps (event_step m setting w event) events (step_keeps w event all)
