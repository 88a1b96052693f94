-- What a law owes that speaks of each change set and of each device, at each kind of step (this project's own).
use Rattle.std.specs.Prelude.{ℕ, ◌≡◌, suc, ◌+◌, ◌-◌, ◌≤◌, ◌<◌, ◌^◌, List, [], ◌∷◌, ◌++◌, Bool, true, false, Some, None, IfSome, slice_get, slice_set}
use Rattle.nm_base.specs.declared.mask.DeviceMask.{DeviceMask}
use Rattle.nm_proto.specs.declared.ask.Ask.{Ask}
use Rattle.nm_proto.specs.declared.message.Request.{Request}
use Rattle.nm_proto.specs.declared.message.Request.TheVariants.{OpenSession}
use Rattle.nm_proto.specs.declared.message.Reply.{Reply}
use Rattle.nm_proto.specs.declared.journal.Entry.{Entry}
use Rattle.nm_proto.specs.declared.journal.Entry.TheVariants.{Decided, Ended}
use Rattle.nm_proto.specs.declared.journal.Verdict.{Verdict}
use Rattle.nm_proto.specs.declared.plan.ChangePlan.{ChangePlan}
use Rattle.nm_proto.specs.declared.plan.Event.TheVariants.{Deliver}
use Rattle.nm_proto.specs.Content.{Meaning}
use Rattle.nm_proto.specs.Plan.{devices_in}
use Rattle.nm_journal.specs.Entries.{decides, may_follow}
use Rattle.nm_sessions.specs.Sessions.{is_open, user_of}
use Rattle.nm_device.specs.Device.{is_manager}
use Rattle.nm_device.specs.Table.{opening_user}
use Rattle.nm_history.specs.declared.event.DeviceEvent.{DeviceEvent}
use Rattle.nm_history.specs.declared.event.DeviceEvent.TheVariants.{Entered, Asked, Lost, Advanced, Restarted}
use Rattle.nm_history.specs.History.{Happened, RecordedState, recorded_with}
use Rattle.nm_device_laws.specs.Moment.{Happens}
use Rattle.nm_device_laws.specs.Keeps.{KeepsFor, is_asker}
use Rattle.nm_device_laws.specs.Token.{leaves_token}
use Rattle.nm_base.specs.Token.{token_of}
use Rattle.nm_recovery.specs.Recovery.{is_started, is_ended_in, verdict_in}
use Rattle.nm_decider.specs.declared.course.NextAction.TheVariants as next
use Rattle.nm_decider.specs.Course.{next_action}
use Rattle.nm_wire.specs.declared.link.Way.TheVariants as ways
use Rattle.nm_wire.specs.Asks.{ask_of}
use Rattle.nm_wire.specs.Link.{LinkState, session_of}
use Rattle.nm_wire.specs.Wire.{link_at, outstanding_at}
use Rattle.nm_manager.specs.Queues.{is_ready_in}
use Rattle.nm_manager.specs.Slot.{SideState, SlotState, breaks, decided, lost_memory, lost_wire, receives, renews, restarted_slot, sends, told_wire, wires_on}
use Rattle.nm_manager.specs.Manager.{starts_anew, with_slot}
use Rattle.nm_safety.specs.Delivered.{is_answer}
use Rattle.nm_world.specs.declared.happened.Happened.TheVariants as happened
use Rattle.nm_world.specs.World.{Setting, CoreState, WorldState, came, manager_in, passed, core_of, with_device, with_manager}
use Rattle.nm_safety.specs.Support.{IsDevice, IsKept, IsOurs, IsOwned, Owners}

-- ---- what a law speaks of

-- a change set, by its number, with its plan, the journal's entries, the devices, and what is kept of it
abbrev pub OfSlot : (Config Node : Type 0) → Type 1
OfSlot Config Node = ℕ → ChangePlan → List Entry → List (RecordedState Config Node) → SlotState → Type 0

-- a device, by its place, with the journal's entries
abbrev pub OfDevice : (Config Node : Type 0) → Type 1
OfDevice Config Node = List Entry → ℕ → RecordedState Config Node → Type 0

module _ {Config TheEdit Node : Type 0} (setting : Setting TheEdit) (S : OfSlot Config Node) (D : OfDevice Config Node) where
  -- each of them is so
  pub record AreKept (w : CoreState Config Node) : Type 0 where
    pub slots : (place : ℕ) (plan : ChangePlan) → slice_get setting.plans place ≡ Some plan
        → IfSome (slice_get w.slots place) (S (suc place) plan w.entries w.devices)
    pub devices : (place : ℕ) → IfSome (slice_get w.devices place) (D w.entries place)

-- ---- what is known at a step

module _ {Config Node : Type 0} where
  -- no link of a change set asks, and its token is left alone
  pub record IsOthers (change : ℕ) (owners : Owners) (r : RecordedState Config Node) (event : DeviceEvent) : Type 0 where
    pub asker : (session place : ℕ) → owners session ≡ Some (record { change = change; place = place }) → is_asker event session ≡ false
    pub token : leaves_token (token_of change) r.device event ≡ true

-- no session opens, and none asks
abbrev pub is_silent : DeviceEvent → Bool
is_silent (Entered user) = false
is_silent (Asked session request) = false
is_silent (Lost session) = true
is_silent (Advanced seconds) = true
is_silent Restarted = true

module _ {Config TheEdit Node : Type 0} (m : Meaning Config TheEdit Node) (setting : Setting TheEdit) (B : WorldState Config Node → Type 0) where
  -- a change set in a world of which something is known: its plan, whose the sessions of its links are, and what is kept
  pub record Site : Type 0 where
    pub w : WorldState Config Node
    pub before : B w
    pub change : ℕ
    pub numbered : 1 ≤ change
    pub plan : ChangePlan
    pub planned : slice_get setting.plans (change - 1) ≡ Some plan
    pub slot : SlotState
    pub there : slice_get w.slots (change - 1) ≡ Some slot
    pub owners : ℕ → Owners
    pub kept : IsKept change (devices_in plan.edits) w.entries owners w.devices slot

  -- what one of its links has outstanding, where the device is there
  pub record Delivery : Type 0 where
    pub w : WorldState Config Node
    pub before : B w
    pub change : ℕ
    pub device : ℕ
    pub link : ℕ
    pub numbered : 1 ≤ change
    pub small : change < 2 ^ 32
    pub plan : ChangePlan
    pub planned : slice_get setting.plans (change - 1) ≡ Some plan
    pub slot : SlotState
    pub there : slice_get w.slots (change - 1) ≡ Some slot
    pub side : SideState
    pub at_side : slice_get slot.sides (device - 1) ≡ Some side
    pub one : LinkState
    pub at_link : link_at side.wire link ≡ Some one
    pub at_place : slice_get side.wire.links (link - 1) ≡ Some one
    pub r : RecordedState Config Node
    pub here : slice_get w.devices (device - 1) ≡ Some r
    pub request : Request
    pub out : outstanding_at side.wire link ≡ Some request
    pub way : one.way ≡ ways.Asked request
    pub owners : ℕ → Owners
    pub kept : IsKept change (devices_in plan.edits) w.entries owners w.devices slot
    pub known : IsDevice m (owners (device - 1)) r
    pub owned : (place : ℕ) (other : LinkState) → slice_get side.wire.links place ≡ Some other
        → IsOwned change (owners (device - 1)) r.device.sessions.last place other
    pub ours : IsOurs change request

  module _ (x : Delivery) where
    -- the device does it. The other links' sessions keep what they have, and no other change set asks
    pub record IsDone (event : DeviceEvent) : Type 0 where
      pub h : Happened Config Node
      pub happens : Happens m setting.tables x.r.device event h
      pub reply : Reply
      pub replies : h.reply ≡ Some reply
      pub answer : is_answer (ask_of x.request) reply ≡ true
      pub keeps : (place : ℕ) (other : LinkState) → slice_get x.side.wire.links place ≡ Some other → (place ≡ x.link - 1 → ⊥)
          → (session : ℕ) → session_of other ≡ Some session → KeepsFor session x.r.device h.after
      pub others : (place : ℕ) (plan : ChangePlan) → slice_get setting.plans place ≡ Some plan → (suc place ≡ x.change → ⊥)
          → IsOthers (suc place) (x.owners (x.device - 1)) x.r event

    module _ {event : DeviceEvent} (d : IsDone event) where
      -- the device then, all devices, and what is kept of the change set
      abbrev pub device_then : RecordedState Config Node
      device_then = recorded_with x.r event d.h

      -- all devices then
      abbrev pub devices_then : List (RecordedState Config Node)
      devices_then = slice_set x.w.devices (x.device - 1) device_then

      -- what is kept of the change set then
      abbrev pub slot_then : SlotState
      slot_then = wires_on (told_wire x.link d.reply) x.slot x.device (Some x.side)

      -- the world then
      abbrev pub world_then : WorldState Config Node
      world_then =
          passed x.w (Deliver x.change x.device x.link)
          (came (with_manager (with_device (core_of x.w) x.device device_then) (with_slot (manager_in (core_of x.w)) x.change slot_then))
          (happened.Replied d.reply d.h.undone))

  -- ---- what is owed

  -- an entry comes that may, and one that ends the change set comes where its course is at the end
  pub record IsComing (x : Site) (entry : Entry) : Type 0 where
    pub may : may_follow x.w.entries entry ≡ true
    pub ends : (kept : DeviceMask) → entry ≡ Ended x.change kept
        → (is_ready_in x.w.entries x.change ≡ true) × (next_action x.slot.course ≡ next.Finish kept)

  -- the entry may come
  abbrev pub MayCome : Site → Entry → Type 0
  MayCome x entry = may_follow x.w.entries entry ≡ true

  module _ (S : OfSlot Config Node) (D : OfDevice Config Node) where
    -- what is said of the change set, with another slot
    abbrev On : Site → SlotState → Type 0
    On x = S x.change x.plan x.w.entries x.w.devices

    -- at each kind of step, where something is known of the world before it, of that after a delivery, and of an entry that comes
    pub record KeepsBy (Comes : Site → Entry → Type 0) : Type 0 where
      -- an entry comes that decides nothing of the change set; its verdict falls
      pub entered : (x : Site) (entry : Entry) → decides x.change entry ≡ false → Comes x entry
          → On x x.slot → S x.change x.plan (x.w.entries ++ entry ∷ []) x.w.devices x.slot
      pub decides_on : (x : Site) (v : Verdict) → is_ready_in x.w.entries x.change ≡ true → next_action x.slot.course ≡ next.Decide v
          → may_follow x.w.entries (Decided x.change v) ≡ true
          → On x x.slot → S x.change x.plan (x.w.entries ++ Decided x.change v ∷ []) x.w.devices (decided x.slot v)
      -- the manager acts for it
      pub sent : (x : Site) (device : ℕ) (what : Ask) → is_ready_in x.w.entries x.change ≡ true
          → next_action x.slot.course ≡ next.Send device what → On x x.slot → On x (sends x.plan x.w.entries x.slot device what).slot
      pub renewed : (x : Site) (device : ℕ) → 1 ≤ device → is_ready_in x.w.entries x.change ≡ true
          → On x x.slot → On x (renews x.plan x.w.entries x.slot device).slot
      pub heard : (x : Site) (device link number : ℕ) → 1 ≤ device → On x x.slot → On x (receives x.slot device link number).slot
      pub broken : (x : Site) (device : ℕ) → 1 ≤ device → On x x.slot → On x (breaks x.slot device).slot
      pub forgotten : (x : Site) → is_started x.change x.w.entries ≡ true → is_ended_in x.change x.w.entries ≡ false
          → On x x.slot → On x (lost_memory x.slot (devices_in x.plan.edits) (verdict_in x.change x.w.entries))
      pub anew : (x : Site) → On x x.slot → On x (starts_anew x.w.entries x.change (devices_in x.plan.edits) x.slot)
      -- sides of links end. The device may be another by then, so nothing is known of the world
      pub closed : (change : ℕ) (plan : ChangePlan) (entries : List Entry) (devices : List (RecordedState Config Node)) (slot : SlotState)
          (device link : ℕ) → S change plan entries devices slot
          → S change plan entries devices (wires_on (lost_wire link) slot device (slice_get slot.sides (device - 1)))
      pub restarted : (change : ℕ) (plan : ChangePlan) (entries : List Entry) (devices : List (RecordedState Config Node)) (slot : SlotState)
          (device : ℕ) → S change plan entries devices slot → S change plan entries devices (restarted_slot device slot)
      -- something happens at a device that the change set doesn't ask for
      pub aside : (x : Site) (d : ℕ) (r : RecordedState Config Node) → slice_get x.w.devices d ≡ Some r → IsDevice m (x.owners d) r
          → (event : DeviceEvent) (h : Happened Config Node) → Happens m setting.tables r.device event h → IsOthers x.change (x.owners d) r event
          → On x x.slot → S x.change x.plan x.w.entries (slice_set x.w.devices d (recorded_with r event h)) x.slot
      -- a device does what the change set asks with a session, or it asks for one
      pub told : (x : Delivery) → opening_user x.request ≡ None → (session : ℕ) → session_of x.one ≡ Some session
          → (d : IsDone x (Asked session x.request)) → B (world_then x d)
          → S x.change x.plan x.w.entries x.w.devices x.slot → D x.w.entries (x.device - 1) x.r
          → S x.change x.plan x.w.entries (devices_then x d) (slot_then x d)
      pub told_opened : (x : Delivery) (user : List ℕ) → x.request ≡ OpenSession user → (d : IsDone x (Entered user)) → B (world_then x d)
          → S x.change x.plan x.w.entries x.w.devices x.slot → D x.w.entries (x.device - 1) x.r
          → S x.change x.plan x.w.entries (devices_then x d) (slot_then x d)
      -- a device, where an entry comes, and what a link asks there, an operator, nobody
      pub entered_beside : (w : WorldState Config Node) → B w → (entry : Entry) → may_follow w.entries entry ≡ true
          → (place : ℕ) (r : RecordedState Config Node) → slice_get w.devices place ≡ Some r
          → D w.entries place r → D (w.entries ++ entry ∷ []) place r
      pub asked_by_link : (x : Delivery) → opening_user x.request ≡ None → (session : ℕ) → session_of x.one ≡ Some session
          → (d : IsDone x (Asked session x.request)) → B (world_then x d) → S x.change x.plan x.w.entries x.w.devices x.slot
          → D x.w.entries (x.device - 1) x.r → D x.w.entries (x.device - 1) (device_then x d)
      pub opened_by_link : (x : Delivery) (user : List ℕ) → x.request ≡ OpenSession user → (d : IsDone x (Entered user)) → B (world_then x d)
          → S x.change x.plan x.w.entries x.w.devices x.slot
          → D x.w.entries (x.device - 1) x.r → D x.w.entries (x.device - 1) (device_then x d)
      pub asked_by_operator : (w : WorldState Config Node) → B w → (place : ℕ) (r : RecordedState Config Node) → slice_get w.devices place ≡ Some r
          → (session : ℕ) → is_open r.device.sessions session ≡ true → is_manager (user_of r.device.sessions session) ≡ false
          → (request : Request) (h : Happened Config Node) → Happens m setting.tables r.device (Asked session request) h
          → D w.entries place r → D w.entries place (recorded_with r (Asked session request) h)
      pub opened_by_operator : (w : WorldState Config Node) → B w → (place : ℕ) (r : RecordedState Config Node) → slice_get w.devices place ≡ Some r
          → (user : List ℕ) → is_manager (Some user) ≡ false → (h : Happened Config Node) → Happens m setting.tables r.device (Entered user) h
          → D w.entries place r → D w.entries place (recorded_with r (Entered user) h)
      pub silent : (w : WorldState Config Node) → B w → (place : ℕ) (r : RecordedState Config Node) → slice_get w.devices place ≡ Some r
          → (event : DeviceEvent) → is_silent event ≡ true → (h : Happened Config Node) → Happens m setting.tables r.device event h
          → D w.entries place r → D w.entries place (recorded_with r event h)

    -- where it is enough that the entry may come
    abbrev pub Keeps : Type 0
    Keeps = KeepsBy MayCome

module _ {Config TheEdit Node : Type 0} (setting : Setting TheEdit) (B : WorldState Config Node → Type 0)
    (S : OfSlot Config Node) (D : OfDevice Config Node) where
  -- what is known already of a world, and what is kept besides
  pub record Both (w : WorldState Config Node) : Type 0 where
    pub before : B w
    pub own : AreKept setting S D (core_of w)
