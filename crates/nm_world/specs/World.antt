-- The world: devices with their histories, the manager's journal and what it keeps of each change set, operators, and what
-- each event does to them. An event that doesn't apply changes nothing but the trail (this project's own). The code changes
-- its parts in place; these are functions of the whole.
use Rattle.std.specs.Prelude.{◌≡◌, ◌≤◌, ℕ, zero, suc, ◌+◌, ◌-◌, ◌==◌, List, [], ◌∷◌, ◌++◌, Bool, true, false, ◌&&◌, length, map, replicate, Option, Some, None, is_some, slice_get, slice_set, Result, Ok, Err, if◌then◌else◌}
use Rattle.std.specs.List.{All}
use Rattle.nm_base.specs.declared.fault.NoMemory.{NoMemory}
use Rattle.nm_proto.specs.declared.message.Request.{Request}
use Rattle.nm_proto.specs.declared.message.Reply.{Reply}
use Rattle.nm_proto.specs.declared.journal.Entry.{Entry}
use Rattle.nm_proto.specs.declared.plan.ChangePlan.{ChangePlan}
use Rattle.nm_proto.specs.declared.plan.Event.{Event}
use Rattle.nm_proto.specs.declared.plan.Event.TheVariants.{Submit, Turn, Deliver, Answer, Break, Lose, Advance, Restart, Forget, Crash, Renew, Foreign, Leave, Round}
use Rattle.nm_proto.specs.Content.{Meaning, TablesState}
use Rattle.nm_journal.specs.Fits.{JournalState}
use Rattle.nm_sessions.specs.Sessions.{is_open}
use Rattle.nm_wire.specs.Link.{session_in}
use Rattle.nm_wire.specs.Wire.{WireState, link_at, is_open_at, session_at, outstanding_at, counts_of}
use Rattle.nm_device.specs.Device.{IsInTime, IsSound}
use Rattle.nm_device.specs.Table.{is_opening}
use Rattle.nm_history.specs.declared.event.DeviceEvent.TheVariants as device_event
use Rattle.nm_history.specs.History.{RecordedState, recorded, recorded_with, Served, Parted, served, lost, advancing, restarting}
use Rattle.nm_manager.specs.declared.action.Action.{Action}
use Rattle.nm_manager.specs.declared.action.Action.TheVariants as action
use Rattle.nm_manager.specs.declared.action.TurnFault.{TurnFault}
use Rattle.nm_manager.specs.Requests.{IsWellFormed}
use Rattle.nm_manager.specs.Slot.{SlotState}
use Rattle.nm_manager.specs.Manager as manager
use Rattle.nm_manager.specs.Manager.{Managing, ManagerState, Step, slots_from, submitted, turned, received, broken, forgotten, renewed, start_at, entry_turned, wire_in, told_on, lost_on, restarted_on, start_anew}
use Rattle.nm_world.specs.declared.happened.Happened.{Happened}
use Rattle.nm_world.specs.declared.happened.Happened.TheVariants as happened
use Rattle.nm_world.specs.declared.happened.TraceEntry.{TraceEntry}
use Rattle.nm_world.specs.declared.happened.Sending.{Sending}

-- what stays through a run: what requests name by number, the change sets, and the users of the operators. Change set c
-- and operator o stand at places c - 1 and o - 1
pub record Setting (TheEdit : Type 0) : Type 0 where
  pub tables : TablesState TheEdit
  pub plans : List ChangePlan
  pub users : List (List ℕ)

-- what stands at a moment. Device d stands at place d - 1, what is kept of change set c at place c - 1, and for operator o at
-- place o - 1 the session that it was last given on each device. It has diverged where the manager once read another journal than
-- it wrote
pub record CoreState (Config Node : Type 0) : Type 0 where
  pub devices : List (RecordedState Config Node)
  pub entries : List Entry
  pub slots : List SlotState
  pub operators : List (List (Option ℕ))
  pub has_diverged : Bool

-- the same with the trail, which tells each elementary event with what came of it, oldest first
pub record WorldState (Config Node : Type 0) : Type 0 where
  pub devices : List (RecordedState Config Node)
  pub entries : List Entry
  pub slots : List SlotState
  pub operators : List (List (Option ℕ))
  pub trail : List TraceEntry
  pub has_diverged : Bool

-- what stands after an elementary event, and what came of it
pub record Came (Config Node : Type 0) : Type 0 where
  pub after : CoreState Config Node
  pub happened : Happened

-- ---- what a world is made of

module _ {Config Node : Type 0} where
  -- a device, by its number
  abbrev pub device_at : CoreState Config Node → ℕ → Option (RecordedState Config Node)
  device_at w device = slice_get w.devices (device - 1)

  -- another device in its place
  abbrev pub with_device : CoreState Config Node → ℕ → RecordedState Config Node → CoreState Config Node
  with_device w device r = record w { devices = slice_set w.devices (device - 1) r }

  -- what the manager has
  abbrev pub manager_in : CoreState Config Node → ManagerState
  manager_in w = record { entries = w.entries; slots = w.slots }

  -- the manager's entries and what it keeps are others
  abbrev pub with_manager : CoreState Config Node → ManagerState → CoreState Config Node
  with_manager w state = record w { entries = state.entries; slots = state.slots }

  -- this came of an event
  abbrev pub came : CoreState Config Node → Happened → Came Config Node
  came w what = record { after = w; happened = what }

  -- an event that doesn't apply
  abbrev pub idle : CoreState Config Node → Came Config Node
  idle w = came w happened.Idle

-- ---- the manager alone

-- what the manager's action is in the world
abbrev pub happened_of : Action → Happened
happened_of action.Idle = happened.Idle
happened_of action.Started = happened.Started
happened_of (action.Sent device link request) = happened.Sent device link request
happened_of action.Handled = happened.Handled
happened_of action.Broken = happened.Broken
happened_of (action.Decided verdict) = happened.Decided verdict
happened_of action.Ended = happened.Ended
happened_of action.Forgot = happened.Forgot

module _ {Config Node : Type 0} where
  -- the manager did a step
  abbrev pub by_manager : CoreState Config Node → Step → Came Config Node
  by_manager w step = came (with_manager w step.state) (happened_of step.action)

  -- ["submit",c]: the change set comes into the journal, once
  abbrev pub submitting : List ChangePlan → CoreState Config Node → ℕ → Came Config Node
  submitting plans w change = by_manager w (submitted plans (manager_in w) change)

  -- ["turn",c]: one action of the manager, where the change set is submitted, not ended and ready
  abbrev pub turning : List ChangePlan → CoreState Config Node → ℕ → Came Config Node
  turning plans w change = by_manager w (turned plans (manager_in w) change)

  -- ["answer",c,d,l,k]: the manager handles a reply, where it is the next one on the current link
  abbrev pub answering : CoreState Config Node → ℕ → ℕ → ℕ → ℕ → Came Config Node
  answering w change device link number = by_manager w (received (manager_in w) change device link number)

  -- ["break",c,d]: the manager's side of the current link ends, where there is one
  abbrev pub breaking : CoreState Config Node → ℕ → ℕ → Came Config Node
  breaking w change device = by_manager w (broken (manager_in w) change device)

  -- ["forget",c]: what the manager knows of a change set is lost, where it is submitted and not ended
  abbrev pub forgetting : List ChangePlan → CoreState Config Node → ℕ → Came Config Node
  forgetting plans w change = by_manager w (forgotten plans (manager_in w) change)

  -- ["renew",c,d]: the timer of a pending commit is set anew (RFC 6241 section 8.4.1), where the change set is ready and undecided
  -- without trouble, and the device has acknowledged and awaits no reply
  abbrev pub renewing : List ChangePlan → CoreState Config Node → ℕ → ℕ → Came Config Node
  renewing plans w change device = by_manager w (renewed plans (manager_in w) change device)

  -- ["crash"]: all that the manager knows is lost, and it goes on from its journal
  abbrev pub crashing : List ChangePlan → CoreState Config Node → Came Config Node
  crashing plans w = came (record w { slots = start_anew w.entries 1 plans w.slots }) happened.Crashed

-- ---- a device and the manager's links to it

module _ {Config Node : Type 0} where
  -- the session of a link is open, or it has none yet
  abbrev pub is_session_open : RecordedState Config Node → Option ℕ → Bool
  is_session_open r None = true
  is_session_open r (Some session) = is_open r.device.sessions session

  -- the device's side of a link is open: it has not ended, and where the link has a session that is open at the device
  abbrev pub is_side_open : RecordedState Config Node → WireState → ℕ → Bool
  is_side_open r links link = is_open_at links link && is_session_open r (session_at links link)

  -- the request of a link that the device has yet to do. What was outstanding where the device's side has ended is dropped
  abbrev pub undelivered : RecordedState Config Node → WireState → ℕ → Option Request
  undelivered r links link = if is_session_open r (session_at links link) then outstanding_at links link else None

-- a device and the manager after an event at them, and what came of it
pub record Meeting (Config Node : Type 0) : Type 0 where
  pub device : RecordedState Config Node
  pub manager : ManagerState
  pub happened : Happened

module _ {Config Node : Type 0} where
  -- a device did what was asked, and the manager keeps the reply
  abbrev pub told_by : ManagerState → ℕ → ℕ → ℕ → Option (Served Config Node) → Option (Meeting Config Node)
  told_by state change device link None = None
  told_by state change device link (Some s) = Some (record {
    device = s.after;
    manager = told_on state change device link s.reply;
    happened = happened.Replied s.reply s.undone;
  })

  -- a session is lost, and the link ends
  abbrev pub lost_by : ManagerState → ℕ → ℕ → ℕ → Option (Parted Config Node) → Option (Meeting Config Node)
  lost_by state change device link None = None
  lost_by state change device link (Some parted) = Some (record {
    device = parted.after;
    manager = lost_on state change device link;
    happened = happened.Lost parted.undone;
  })

  -- the world after such an event. None doesn't apply
  abbrev pub met : CoreState Config Node → ℕ → Option (Meeting Config Node) → Came Config Node
  met w device None = idle w
  met w device (Some m) = came (with_manager (with_device w device m.device) m.manager) m.happened

module _ {Config TheEdit Node : Type 0} (m : Meaning Config TheEdit Node) where
  -- a link without a session ends at the device alone; one with a session loses it
  abbrev pub loses : RecordedState Config Node → ManagerState → ℕ → ℕ → ℕ → Option ℕ → Option (Meeting Config Node)
  loses r state change device link None =
      Some (record { device = r; manager = lost_on state change device link; happened = happened.Lost false })
  loses r state change device link (Some session) = lost_by state change device link (lost m r session)

  -- the same of a link whose device side is open
  abbrev pub lost_from : RecordedState Config Node → ManagerState → ℕ → ℕ → ℕ → WireState → Option (Meeting Config Node)
  lost_from r state change device link links =
      if is_side_open r links link then loses r state change device link (session_at links link) else None

  -- the same of a device that is there
  abbrev pub losing_at : ManagerState → ℕ → ℕ → ℕ → Option (RecordedState Config Node) → Option (Meeting Config Node)
  losing_at state change device link None = None
  losing_at state change device link (Some r) = lost_from r state change device link (wire_in state change device)

  -- ["lose",c,d,l]: the session of a link whose device side is open is lost, and its request dropped (RFC 6241 section 8.4.1)
  abbrev pub losing : CoreState Config Node → ℕ → ℕ → ℕ → Came Config Node
  losing w change device link = met w device (losing_at (manager_in w) change device link (device_at w device))

module _ {Config TheEdit Node : Type 0} (m : Meaning Config TheEdit Node) (tables : TablesState TheEdit) where
  -- a device does a request, where there is one
  abbrev pub does : RecordedState Config Node → ManagerState → ℕ → ℕ → ℕ → Option ℕ → Option Request → Option (Meeting Config Node)
  does r state change device link session None = None
  does r state change device link session (Some request) = told_by state change device link (served m tables r session request)

  -- a device does what a link has outstanding
  abbrev pub delivered_to : RecordedState Config Node → ManagerState → ℕ → ℕ → ℕ → WireState → Option (Meeting Config Node)
  delivered_to r state change device link links = does r state change device link (session_at links link) (undelivered r links link)

  -- the same of a device that is there
  abbrev pub delivering_at : ManagerState → ℕ → ℕ → ℕ → Option (RecordedState Config Node) → Option (Meeting Config Node)
  delivering_at state change device link None = None
  delivering_at state change device link (Some r) = delivered_to r state change device link (wire_in state change device)

  -- ["deliver",c,d,l]: the device does the request that a link has outstanding, where the device's side is open, and replies
  abbrev pub delivering : CoreState Config Node → ℕ → ℕ → ℕ → Came Config Node
  delivering w change device link = met w device (delivering_at (manager_in w) change device link (device_at w device))

module _ {Config TheEdit Node : Type 0} (m : Meaning Config TheEdit Node) where
  -- a device restarts, and its sides of all links end
  abbrev pub restarted_with : ManagerState → ℕ → RecordedState Config Node → Meeting Config Node
  restarted_with state device r = record {
    device = recorded_with r device_event.Restarted (restarting m r.device);
    manager = restarted_on state device;
    happened = happened.Restarted (restarting m r.device).undone;
  }

  -- the same of a device that is there
  abbrev pub anew_at : ManagerState → ℕ → Option (RecordedState Config Node) → Option (Meeting Config Node)
  anew_at state device None = None
  anew_at state device (Some r) = Some (restarted_with state device r)

  -- ["restart",d]: a device restarts, and its sides of all links end
  abbrev pub going_anew : CoreState Config Node → ℕ → Came Config Node
  going_anew w device = met w device (anew_at (manager_in w) device (device_at w device))

-- ---- a device alone

-- a device after an event at it alone, and what came of it
pub record Moved (Config Node : Type 0) : Type 0 where
  pub device : RecordedState Config Node
  pub happened : Happened

-- the world after such an event. None doesn't apply
abbrev pub moved : {Config Node : Type 0} → CoreState Config Node → ℕ → Option (Moved Config Node) → Came Config Node
moved w device None = idle w
moved w device (Some now) = came (with_device w device now.device) now.happened

module _ {Config TheEdit Node : Type 0} (m : Meaning Config TheEdit Node) where
  -- the clock of a device rises
  abbrev pub later_by : ℕ → RecordedState Config Node → Moved Config Node
  later_by seconds r = record {
    device = recorded_with r (device_event.Advanced seconds) (advancing m r.device seconds);
    happened = happened.Now (r.device.clock + seconds) (advancing m r.device seconds).undone;
  }

  -- the same of a device that is there
  abbrev pub later_at : ℕ → Option (RecordedState Config Node) → Option (Moved Config Node)
  later_at seconds None = None
  later_at seconds (Some r) = Some (later_by seconds r)

  -- ["advance",d,n]: the clock of a device rises, and a commit whose time is over is undone (RFC 6241 section 8.4.1)
  abbrev pub passing : CoreState Config Node → ℕ → ℕ → Came Config Node
  passing w device seconds = moved w device (later_at seconds (device_at w device))

-- ---- operators

-- the session that an operator was last given on the device at a place
abbrev pub given_in : Option (Option ℕ) → Option ℕ
given_in None = None
given_in (Some session) = session

-- the session that an operator was given on a device
abbrev pub given_on : List (Option ℕ) → ℕ → Option ℕ
given_on operator place = given_in (slice_get operator place)

module _ {Config Node : Type 0} where
  -- that session, where it is open
  abbrev pub open_on : RecordedState Config Node → Option ℕ → Option ℕ
  open_on r None = None
  open_on r (Some session) = if is_open r.device.sessions session then Some session else None

  -- the session that it has there: the last one, where that is still open
  abbrev pub has_on : List (Option ℕ) → RecordedState Config Node → ℕ → Option ℕ
  has_on operator r place = open_on r (given_on operator place)

-- an operator has another session on a device
abbrev pub with_session : List (Option ℕ) → ℕ → Option ℕ → List (Option ℕ)
with_session operator place None = operator
with_session operator place (Some session) = slice_set operator place (Some session)

-- it keeps the session that a reply gives it
abbrev pub with_opened : List (Option ℕ) → ℕ → Reply → List (Option ℕ)
with_opened operator place reply = with_session operator place (session_in reply)

-- the operator of a number, from 1
abbrev pub operator_at : List (List (Option ℕ)) → ℕ → Option (List (Option ℕ))
operator_at operators number = if number == 0 then None else slice_get operators (number - 1)

-- a device and an operator after a request, and what came of it
pub record Asking (Config Node : Type 0) : Type 0 where
  pub device : RecordedState Config Node
  pub operator : List (Option ℕ)
  pub happened : Happened

module _ {Config Node : Type 0} where
  -- what an operator is told, and what it has then
  abbrev pub answered_to : List (Option ℕ) → ℕ → Option (Served Config Node) → Option (Asking Config Node)
  answered_to operator place None = None
  answered_to operator place (Some s) =
      Some (record { device = s.after; operator = with_opened operator place s.reply; happened = happened.Replied s.reply s.undone })

  -- the world after such a request. None doesn't apply
  abbrev pub asked_by : CoreState Config Node → ℕ → ℕ → Option (Asking Config Node) → Came Config Node
  asked_by w number device None = idle w
  asked_by w number device (Some a) =
      came (record (with_device w device a.device) { operators = slice_set w.operators (number - 1) a.operator }) a.happened

module _ {Config TheEdit Node : Type 0} (m : Meaning Config TheEdit Node) (tables : TablesState TheEdit) where
  -- who has a session doesn't ask for another, and who has none asks for one alone
  abbrev pub asks_with : RecordedState Config Node → List (Option ℕ) → ℕ → Request → Option ℕ → Option (Asking Config Node)
  asks_with r operator place request session =
      if is_opening request && is_some session then None else answered_to operator place (served m tables r session request)

  -- the device at a place does a request of an operator
  abbrev pub asks : RecordedState Config Node → List (Option ℕ) → ℕ → Request → Option (Asking Config Node)
  asks r operator place request = asks_with r operator place request (has_on operator r place)

  -- an operator asks a device, where both are there
  abbrev pub asking_at : ℕ → Request → Option (List (Option ℕ)) → Option (RecordedState Config Node) → Option (Asking Config Node)
  asking_at device request None r = None
  asking_at device request (Some operator) None = None
  asking_at device request (Some operator) (Some r) = asks r operator (device - 1) request

  -- ["foreign",o,d,REQUEST]: a device does a request of an operator, who has a session there exactly where it doesn't ask for one
  abbrev pub asking : CoreState Config Node → ℕ → ℕ → Request → Came Config Node
  asking w number device request = asked_by w number device (asking_at device request (operator_at w.operators number) (device_at w device))

-- a session was lost
abbrev pub parted_by : {Config Node : Type 0} → Option (Parted Config Node) → Option (Moved Config Node)
parted_by None = None
parted_by (Some parted) = Some (record { device = parted.after; happened = happened.Left parted.undone })

module _ {Config TheEdit Node : Type 0} (m : Meaning Config TheEdit Node) where
  -- an operator leaves, where it has an open session
  abbrev pub left_with : RecordedState Config Node → Option ℕ → Option (Moved Config Node)
  left_with r None = None
  left_with r (Some session) = parted_by (lost m r session)

  -- the same, where both are there
  abbrev pub leaving_at : ℕ → Option (List (Option ℕ)) → Option (RecordedState Config Node) → Option (Moved Config Node)
  leaving_at device None r = None
  leaving_at device (Some operator) None = None
  leaving_at device (Some operator) (Some r) = left_with r (has_on operator r (device - 1))

  -- ["leave",o,d]: the session that an operator has on a device is lost
  abbrev pub leaving : CoreState Config Node → ℕ → ℕ → Came Config Node
  leaving w number device = moved w device (leaving_at device (operator_at w.operators number) (device_at w device))

module _ {Config Node : Type 0} where
  -- the session that an operator has on a device at a place, where both are there
  abbrev pub session_by : ℕ → Option (List (Option ℕ)) → Option (RecordedState Config Node) → Option ℕ
  session_by place None r = None
  session_by place (Some operator) None = None
  session_by place (Some operator) (Some r) = has_on operator r place

  -- the session that an operator has on a device, where there are both
  abbrev pub operator_session : CoreState Config Node → ℕ → ℕ → Option ℕ
  operator_session w number device = session_by (device - 1) (operator_at w.operators number) (device_at w device)

-- ---- the whole

module _ {Config Node : Type 0} where
  -- what stands, without the trail
  abbrev pub core_of : WorldState Config Node → CoreState Config Node
  core_of w = record { devices = w.devices; entries = w.entries; slots = w.slots; operators = w.operators; has_diverged = w.has_diverged }

  -- the world after an elementary event, which its trail tells with what came of it
  abbrev pub passed : WorldState Config Node → Event → Came Config Node → WorldState Config Node
  passed w event c = record {
    devices = c.after.devices;
    entries = c.after.entries;
    slots = c.after.slots;
    operators = c.after.operators;
    trail = w.trail ++ record { event = event; happened = c.happened } ∷ [];
    has_diverged = c.after.has_diverged;
  }

module _ {Config TheEdit Node : Type 0} (m : Meaning Config TheEdit Node) (setting : Setting TheEdit) where
  -- what an elementary event does. A round isn't one
  abbrev pub elementary : CoreState Config Node → Event → Came Config Node
  elementary w (Submit change) = submitting setting.plans w change
  elementary w (Turn change) = turning setting.plans w change
  elementary w (Deliver change device link) = delivering m setting.tables w change device link
  elementary w (Answer change device link number) = answering w change device link number
  elementary w (Break change device) = breaking w change device
  elementary w (Lose change device link) = losing m w change device link
  elementary w (Advance device seconds) = passing m w device seconds
  elementary w (Restart device) = going_anew m w device
  elementary w (Forget change) = forgetting setting.plans w change
  elementary w Crash = crashing setting.plans w
  elementary w (Renew change device) = renewing setting.plans w change device
  elementary w (Foreign operator device request) = asking m setting.tables w operator device request
  elementary w (Leave operator device) = leaving m w operator device
  elementary w (Round change turns) = idle w

  -- the world after an elementary event, told in the trail
  abbrev pub world_step : WorldState Config Node → Event → WorldState Config Node
  world_step w event = passed w event (elementary (core_of w) event)

-- ---- rounds and runs

-- where a request was sent, if one was
abbrev pub sending_of : Happened → Option Sending
sending_of (happened.Sent device link request) = Some (record { device = device; link = link })
sending_of _ = None

-- how many replies were sent on a link
abbrev pub replies_on : WireState → ℕ → ℕ
replies_on links link = (counts_of (link_at links link)).0

module _ {Config TheEdit Node : Type 0} (m : Meaning Config TheEdit Node) (setting : Setting TheEdit) where
  -- the answer of the last reply on a link
  abbrev pub last_answered : WorldState Config Node → ℕ → Sending → WorldState Config Node
  last_answered w change sending = world_step m setting w
      (Answer change sending.device sending.link (replies_on (wire_in (manager_in (core_of w)) change sending.device) sending.link))

  -- after a turn that sent: the delivery, and the answer of the last reply
  abbrev pub followed : WorldState Config Node → ℕ → Option Sending → WorldState Config Node
  followed w change None = w
  followed w change (Some sending) = last_answered (world_step m setting w (Deliver change sending.device sending.link)) change sending

  -- a turn, and what follows where it sent
  abbrev pub round : WorldState Config Node → ℕ → WorldState Config Node
  round w change = followed (world_step m setting w (Turn change)) change (sending_of (elementary m setting (core_of w) (Turn change)).happened)

  -- so many rounds
  abbrev pub rounds : ℕ → WorldState Config Node → ℕ → WorldState Config Node
  rounds zero w change = w
  rounds (suc n) w change = rounds n (round w change) change

  -- what an event of a scenario does: a round stands for its elementary events
  abbrev pub event_step : WorldState Config Node → Event → WorldState Config Node
  event_step w (Round change turns) = rounds turns w change
  event_step w event = world_step m setting w event

  -- a whole run
  abbrev pub run : WorldState Config Node → List Event → WorldState Config Node
  run w [] = w
  run w (event ∷ events) = run (event_step w event) events

-- ---- the beginning

-- devices with these running configurations, nothing submitted, and operators without sessions
abbrev pub begin : {Config TheEdit Node : Type 0} → Setting TheEdit → List Config → CoreState Config Node
begin setting running = record {
  devices = map recorded running;
  entries = [];
  slots = slots_from 1 setting.plans;
  operators = replicate (length setting.users) (replicate (length running) None);
  has_diverged = false;
}

-- the same, with nothing in the trail
abbrev pub start : {Config TheEdit Node : Type 0} → Setting TheEdit → List Config → WorldState Config Node
start setting running = record {
  devices = map recorded running;
  entries = [];
  slots = slots_from 1 setting.plans;
  operators = replicate (length setting.users) (replicate (length running) None);
  trail = [];
  has_diverged = false;
}

-- a configuration that a device may begin with: it belongs to the content and is valid
pub record IsFirst {Config TheEdit Node : Type 0} (m : Meaning Config TheEdit Node) (config : Config) : Type 0 where
  pub belongs : m.belongs config
  pub valid : m.violation config ≡ None

-- what a world can begin with: configurations that devices may begin with, edits that belong to the content, change sets that are
-- well formed, and no more devices and change sets than there are numbers for
pub record CanBegin {Config TheEdit Node : Type 0} (m : Meaning Config TheEdit Node) (setting : Setting TheEdit)
    (first_configs : List Config) : Type 0 where
  pub first : All (IsFirst m) first_configs
  pub edits : All m.edit_belongs setting.tables.edits
  pub few_devices : length first_configs ≤ 32
  pub well_formed : All IsWellFormed setting.plans
  pub few : length setting.plans ≤ 64

-- what worlds begin with: their content, what stays through a run, and the first configuration of each device
pub record SetupState (TheContent Config TheEdit : Type 0) : Type 0 where
  pub content : TheContent
  pub setting : Setting TheEdit
  pub first_configs : List Config

-- ---- what the code holds

-- each device is sound for the content
abbrev pub AreSound : {Config TheEdit Node : Type 0} → Meaning Config TheEdit Node → List (RecordedState Config Node) → Type 0
AreSound m devices = All (λ r. IsSound m r.device) devices

-- each clock is far from the end of its range
abbrev pub AreInTime : {Config Node : Type 0} → List (RecordedState Config Node) → Type 0
AreInTime devices = All (λ r. IsInTime r.device.clock) devices

-- a world as the code holds it: its content, its setting and the configurations that it began with, the entry at which its journal
-- stopped, whether it has failed, and its state
pub record WorldValue (TheContent Config TheEdit Node : Type 0) : Type 0 where
  pub content : TheContent
  pub setting : Setting TheEdit
  pub first_configs : List Config
  pub failed : Option Entry
  pub has_failed : Bool
  pub state : WorldState Config Node

-- the same of what stands at a moment
pub record CoreValue (TheContent Config TheEdit Node : Type 0) : Type 0 where
  pub content : TheContent
  pub setting : Setting TheEdit
  pub first_configs : List Config
  pub failed : Option Entry
  pub has_failed : Bool
  pub state : CoreState Config Node

module _ {TheContent Config TheEdit Node : Type 0} where
  -- a world at its beginning
  abbrev pub fresh_world : SetupState TheContent Config TheEdit → WorldValue TheContent Config TheEdit Node
  fresh_world setup = record {
    content = setup.content;
    setting = setup.setting;
    first_configs = setup.first_configs;
    failed = None;
    has_failed = false;
    state = start setup.setting setup.first_configs;
  }

  -- a world that begins again
  abbrev pub world_anew : WorldValue TheContent Config TheEdit Node → WorldValue TheContent Config TheEdit Node
  world_anew w = record w { failed = None; has_failed = false; state = start w.setting w.first_configs }

  -- the same of what stands at a moment
  abbrev pub fresh_core : SetupState TheContent Config TheEdit → CoreValue TheContent Config TheEdit Node
  fresh_core setup = record {
    content = setup.content;
    setting = setup.setting;
    first_configs = setup.first_configs;
    failed = None;
    has_failed = false;
    state = begin setup.setting setup.first_configs;
  }

  -- what stands when a world begins again
  abbrev pub core_anew : CoreValue TheContent Config TheEdit Node → CoreValue TheContent Config TheEdit Node
  core_anew w = record w { failed = None; has_failed = false; state = begin w.setting w.first_configs }

  -- the same world in another state
  abbrev pub with_state : WorldValue TheContent Config TheEdit Node → WorldState Config Node → WorldValue TheContent Config TheEdit Node
  with_state w state = record w { state = state }

  -- what the world's journal holds
  abbrev pub journal_of : WorldValue TheContent Config TheEdit Node → JournalState
  journal_of w = record { entries = w.state.entries; failed = w.failed }

  -- this came of an elementary event, and it left this
  abbrev pub IsCome : Happened → CoreValue TheContent Config TheEdit Node → CoreValue TheContent Config TheEdit Node → Came Config Node → Type 0
  IsCome what old new c = (what ≡ c.happened) × (new ≡ record old { state = c.after })

  -- a call that does an elementary event. Where there is no memory, nothing changes
  abbrev pub Comes : Result Happened NoMemory → CoreValue TheContent Config TheEdit Node → CoreValue TheContent Config TheEdit Node → Came Config Node → Type 0
  Comes (Ok what) old new c = IsCome what old new c
  Comes (Err fault) old new c = new ≡ old

-- ---- calls for one device, for the code

-- what a call at one device and the manager did, and what it left. None doesn't apply
abbrev pub IsMet : {Config Node : Type 0} → Happened → (old new : RecordedState Config Node) → (before after : Managing) → Option (Meeting Config Node) → Type 0
IsMet what old new before after None = (what ≡ happened.Idle) × (new ≡ old) × (after ≡ before)
IsMet what old new before after (Some now) = (what ≡ now.happened) × (new ≡ now.device) × (after ≡ manager.with_state before now.manager)

-- a call at a device and an operator
abbrev pub IsAsked : {Config Node : Type 0} → Happened → (old new : RecordedState Config Node)
    → (before after : List (Option ℕ)) → Option (Asking Config Node) → Type 0
IsAsked what old new before after None = (what ≡ happened.Idle) × (new ≡ old) × (after ≡ before)
IsAsked what old new before after (Some now) = (what ≡ now.happened) × (new ≡ now.device) × (after ≡ now.operator)

-- a call at a device alone
abbrev pub IsMoved : {Config Node : Type 0} → Happened → (old new : RecordedState Config Node) → Option (Moved Config Node) → Type 0
IsMoved what old new None = (what ≡ happened.Idle) × (new ≡ old)
IsMoved what old new (Some now) = (what ≡ now.happened) × (new ≡ now.device)

-- ---- calls that touch the journal, for the code

-- the manager may write its journal then, or reads it
abbrev pub touches_journal : Event → Bool
touches_journal (Submit change) = true
touches_journal (Turn change) = true
touches_journal Crash = true
touches_journal _ = false

-- the manager crashes
abbrev pub is_crash : Event → Bool
is_crash Crash = true
is_crash _ = false

-- no event is a crash
abbrev pub AreCalm : List Event → Type 0
AreCalm events = All (λ event. is_crash event ≡ false) events

-- the change set that an event names, 0 where it names none
abbrev pub change_in : Event → ℕ
change_in (Submit change) = change
change_in (Turn change) = change
change_in (Deliver change device link) = change
change_in (Answer change device link number) = change
change_in (Break change device) = change
change_in (Lose change device link) = change
change_in (Advance device seconds) = 0
change_in (Restart device) = 0
change_in (Forget change) = change
change_in Crash = 0
change_in (Renew change device) = change
change_in (Foreign operator device request) = 0
change_in (Leave operator device) = 0
change_in (Round change turns) = change

-- the entry that an event writes, where it writes one
abbrev pub entry_of : {Config TheEdit Node : Type 0} → Setting TheEdit → CoreState Config Node → Event → Option Entry
entry_of setting w (Submit change) = start_at setting.plans change
entry_of setting w (Turn change) = entry_turned (manager_in w) change
entry_of setting w _ = None

module _ {TheContent Config TheEdit Node : Type 0} where
  -- nothing has changed but that the journal stopped, or couldn't be read again
  abbrev pub IsAsBefore : CoreValue TheContent Config TheEdit Node → CoreValue TheContent Config TheEdit Node → Type 0
  IsAsBefore old new = new ≡ record old { failed = new.failed; has_failed = new.has_failed }

  -- what the core's journal holds
  abbrev pub core_journal : CoreValue TheContent Config TheEdit Node → JournalState
  core_journal w = record { entries = w.state.entries; failed = w.failed }

  -- a call that does such an event
  abbrev pub ComesOrFails : Result Happened TurnFault → CoreValue TheContent Config TheEdit Node
      → CoreValue TheContent Config TheEdit Node → Came Config Node → Type 0
  ComesOrFails (Ok what) old new c = IsCome what old new c
  ComesOrFails (Err fault) old new c = IsAsBefore old new

  -- nothing has changed but that the journal stopped, or couldn't be read again
  abbrev pub IsStill : WorldValue TheContent Config TheEdit Node → WorldValue TheContent Config TheEdit Node → Type 0
  IsStill old new = new ≡ record old { failed = new.failed; has_failed = new.has_failed }
