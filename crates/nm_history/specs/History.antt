-- What happens at a device, and what its history tells: each reply is that of one device that does one thing after
-- another (the plain sequential reading). The code keeps the history beside the device; these definitions begin at the
-- first running configuration and replay it.
use Rattle.std.specs.Prelude.{◌≡◌, ℕ, List, [], ◌∷◌, ◌++◌, Bool, false, not, ◌&&◌, Option, Some, None, if◌then◌else◌}
use Rattle.nm_proto.specs.declared.message.Request.{Request}
use Rattle.nm_proto.specs.declared.message.Reply.{Reply}
use Rattle.nm_proto.specs.Content.{Meaning, TablesState}
use Rattle.nm_sessions.specs.Sessions.{is_open}
use Rattle.nm_device.specs.Device.{DeviceState, Stepped, fresh_device, is_dropped}
use Rattle.nm_device.specs.Undoing.{ended, advanced, restarted}
use Rattle.nm_device.specs.Table.{opened, device_step, opening_user, is_opening, undid}
use Rattle.nm_history.specs.declared.event.DeviceEvent.{DeviceEvent}
use Rattle.nm_history.specs.declared.event.DeviceEvent.TheVariants.{Entered, Asked, Lost, Advanced, Restarted}
use Rattle.nm_history.specs.declared.event.Noted.{Noted}
use Rattle.nm_history.specs.declared.recorded.Told.{Told}

-- what an event answers, whether it undid a pending commit other than by a cancel, and what it leaves
pub record Happened (Config Node : Type 0) : Type 0 where
  pub reply : Option Reply
  pub undone : Bool
  pub after : DeviceState Config Node

-- a device with what has happened at it, oldest first
pub record RecordedState (Config Node : Type 0) : Type 0 where
  pub device : DeviceState Config Node
  pub history : List Noted

module _ {Config Node : Type 0} where
  -- an entry of a history
  abbrev pub noted : DeviceEvent → Happened Config Node → Noted
  noted event h = record { event = event; reply = h.reply; undone = h.undone }

  -- a session opens, or is refused
  abbrev pub entering : DeviceState Config Node → List ℕ → Happened Config Node
  entering s user = record { reply = Some (opened s user).reply; undone = false; after = (opened s user).after }

  -- a request is answered
  abbrev pub answered : DeviceState Config Node → Request → Stepped Config Node → Happened Config Node
  answered s request stepped = record { reply = Some stepped.reply; undone = undid request s stepped.after; after = stepped.after }

  -- what happens where it can
  abbrev pub happened_if : Bool → Happened Config Node → Option (Happened Config Node)
  happened_if can happened = if can then Some happened else None

  -- nothing has happened at the device yet
  abbrev pub recorded : Config → RecordedState Config Node
  recorded running = record { device = fresh_device running; history = [] }

  -- the device and its history with what happened
  abbrev pub recorded_with : RecordedState Config Node → DeviceEvent → Happened Config Node → RecordedState Config Node
  recorded_with r event h = record { device = h.after; history = r.history ++ noted event h ∷ [] }

  -- the same, and as they were where nothing did
  abbrev pub recorded_if : RecordedState Config Node → DeviceEvent → Option (Happened Config Node) → RecordedState Config Node
  recorded_if r event None = r
  recorded_if r event (Some h) = recorded_with r event h

  -- the device after what happened
  abbrev pub after_or : DeviceState Config Node → Option (Happened Config Node) → DeviceState Config Node
  after_or s None = s
  after_or s (Some h) = h.after

  -- the event could happen, and this is what it answered
  abbrev pub Fits : Noted → Option (Happened Config Node) → Type 0
  Fits entry None = ⊥
  Fits entry (Some h) = entry ≡ noted entry.event h

module _ {Config TheEdit Node : Type 0} (m : Meaning Config TheEdit Node) where
  -- what changes a device without an answer, and whether that undid what was pending
  abbrev pub silently : DeviceState Config Node → DeviceState Config Node → Happened Config Node
  silently s after = record { reply = None; undone = is_dropped s after; after = after }

  -- a session ends without a close
  abbrev pub losing : DeviceState Config Node → ℕ → Happened Config Node
  losing s session = silently s (ended m s session)

  -- the clock rises
  abbrev pub advancing : DeviceState Config Node → ℕ → Happened Config Node
  advancing s seconds = silently s (advanced m s seconds)

  -- the device restarts
  abbrev pub restarting : DeviceState Config Node → Happened Config Node
  restarting s = silently s (restarted m s)

  -- what a loss does: it wants an open session
  abbrev pub loss_of : DeviceState Config Node → ℕ → Option (Happened Config Node)
  loss_of s session = happened_if (is_open s.sessions session) (losing s session)

module _ {Config TheEdit Node : Type 0} (m : Meaning Config TheEdit Node) (tables : TablesState TheEdit) where
  -- what an event does, None where it can't happen: a request or a loss wants an open session
  abbrev pub device_event : DeviceState Config Node → DeviceEvent → Option (Happened Config Node)
  device_event s (Entered user) = Some (entering s user)
  device_event s (Asked session request) =
      happened_if (is_open s.sessions session && not (is_opening request)) (answered s request (device_step m tables s session request))
  device_event s (Lost session) = loss_of m s session
  device_event s (Advanced seconds) = Some (advancing m s seconds)
  device_event s Restarted = Some (restarting m s)

  -- the device and its history after an event. One that can't happen changes nothing
  abbrev pub recorded_after : RecordedState Config Node → DeviceEvent → RecordedState Config Node
  recorded_after r event = recorded_if r event (device_event r.device event)

  -- events one after another
  abbrev pub recorded_run : RecordedState Config Node → List DeviceEvent → RecordedState Config Node
  recorded_run r [] = r
  recorded_run r (event ∷ events) = recorded_run (recorded_after r event) events

  -- ---- reading a history

  -- the device after an entry of a history
  abbrev pub replayed : DeviceState Config Node → Noted → DeviceState Config Node
  replayed s entry = after_or s (device_event s entry.event)

  -- the device at the end of a history
  abbrev pub replay : DeviceState Config Node → List Noted → DeviceState Config Node
  replay s [] = s
  replay s (entry ∷ history) = replay (replayed s entry) history

  -- each reply is the one that the device gives at that point
  abbrev pub IsLegal : DeviceState Config Node → List Noted → Type 0
  IsLegal s [] = Unit {0}
  IsLegal s (entry ∷ history) = Fits entry (device_event s entry.event) × IsLegal (replayed s entry) history

-- ---- serving

-- what a device replies to who asks, whether that undid a pending commit, and the device with its history after it
pub record Served (Config Node : Type 0) : Type 0 where
  pub reply : Reply
  pub undone : Bool
  pub after : RecordedState Config Node

-- whether something without an answer undid a pending commit, and the device with its history after it
pub record Parted (Config Node : Type 0) : Type 0 where
  pub undone : Bool
  pub after : RecordedState Config Node

-- the event that it is when a request comes on a session: who asks for a session needs none
abbrev pub event_by : Option ℕ → Request → Option (List ℕ) → Option DeviceEvent
event_by session request (Some user) = Some (Entered user)
event_by None request None = None
event_by (Some session) request None = Some (Asked session request)

-- a request as what happens at the device: one that opens a session needs none, any other needs its own
abbrev pub event_of : Option ℕ → Request → Option DeviceEvent
event_of session request = event_by session request (opening_user request)

module _ {Config Node : Type 0} where
  -- what is told of an event that was answered
  abbrev pub replied_with : RecordedState Config Node → DeviceEvent → Happened Config Node → Option Reply → Option (Served Config Node)
  replied_with r event h None = None
  replied_with r event h (Some reply) = Some (record { reply = reply; undone = h.undone; after = recorded_with r event h })

  -- an event is served, where it happens and is answered
  abbrev pub served_as : RecordedState Config Node → DeviceEvent → Option (Happened Config Node) → Option (Served Config Node)
  served_as r event None = None
  served_as r event (Some h) = replied_with r event h h.reply

  -- what is told of an event that nobody asked for
  abbrev pub parted_as : RecordedState Config Node → DeviceEvent → Option (Happened Config Node) → Option (Parted Config Node)
  parted_as r event None = None
  parted_as r event (Some h) = Some (record { undone = h.undone; after = recorded_with r event h })

module _ {Config TheEdit Node : Type 0} (m : Meaning Config TheEdit Node) where
  -- the loss of a session. None where it isn't open
  abbrev pub lost : RecordedState Config Node → ℕ → Option (Parted Config Node)
  lost r session = parted_as r (Lost session) (loss_of m r.device session)

module _ {Config TheEdit Node : Type 0} (m : Meaning Config TheEdit Node) (tables : TablesState TheEdit) where
  -- what an event does, where there is one
  abbrev pub served_event : RecordedState Config Node → Option DeviceEvent → Option (Served Config Node)
  served_event r None = None
  served_event r (Some event) = served_as r event (device_event m tables r.device event)

  -- what a request of a session does, or the request for one. None where the session isn't open
  abbrev pub served : RecordedState Config Node → Option ℕ → Request → Option (Served Config Node)
  served r session request = served_event r (event_of session request)

-- what is told of it: the reply, twice
abbrev pub told_of : {Config Node : Type 0} → Served Config Node → Told
told_of served = record { reply = served.reply; again = served.reply; undone = served.undone }

-- a call that serves
abbrev pub Serves : {Config Node : Type 0} → Option Told → RecordedState Config Node → RecordedState Config Node → Option (Served Config Node) → Type 0
Serves told old new None = (told ≡ None) × (new ≡ old)
Serves told old new (Some served) = (told ≡ Some (told_of served)) × (new ≡ served.after)

-- a call that changes a device without an answer
abbrev pub Changes : {Config Node : Type 0} → Bool → RecordedState Config Node → RecordedState Config Node → DeviceEvent → Happened Config Node → Type 0
Changes undone old new event h = (undone ≡ h.undone) × (new ≡ recorded_with old event h)

-- a call that loses a session
abbrev pub Loses : {Config Node : Type 0} → Option Bool → RecordedState Config Node → RecordedState Config Node → Option (Parted Config Node) → Type 0
Loses undone old new None = (undone ≡ None) × (new ≡ old)
Loses undone old new (Some parted) = (undone ≡ Some parted.undone) × (new ≡ parted.after)
