-- What each kind of step of the world owes for what is said of every event (this project's own). It is said of an event and of what came of
-- it, so this serves what every world keeps, and what holds of a world before an event and after it.
use Rattle.std.specs.Prelude.{ℕ, ◌≡◌, ◌+◌, ◌-◌, ◌≤◌, List, true, false, Option, Some, None, slice_get, slice_set}
use Rattle.nm_base.specs.declared.mask.DeviceMask.{DeviceMask}
use Rattle.nm_proto.specs.declared.ask.Ask.{Ask}
use Rattle.nm_proto.specs.declared.message.Request.{Request}
use Rattle.nm_proto.specs.declared.message.Request.TheVariants.{OpenSession}
use Rattle.nm_proto.specs.declared.message.Reply.{Reply}
use Rattle.nm_proto.specs.declared.journal.Entry.TheVariants.{Decided, Ended}
use Rattle.nm_proto.specs.declared.journal.Verdict.{Verdict}
use Rattle.nm_proto.specs.declared.plan.ChangePlan.{ChangePlan}
use Rattle.nm_proto.specs.declared.plan.Event.{Event}
use Rattle.nm_proto.specs.declared.plan.Event.TheVariants.{Submit, Turn, Deliver, Answer, Break, Lose, Advance, Restart, Forget, Crash, Renew, Foreign, Leave}
use Rattle.nm_proto.specs.Content.{Meaning}
use Rattle.nm_proto.specs.Plan.{devices_in}
use Rattle.nm_journal.specs.Entries.{may_follow}
use Rattle.nm_sessions.specs.Sessions.{is_open}
use Rattle.nm_device.specs.Table.{opening_user}
use Rattle.nm_history.specs.declared.event.DeviceEvent.{DeviceEvent}
use Rattle.nm_history.specs.declared.event.DeviceEvent.TheVariants.{Entered, Asked, Lost, Advanced, Restarted}
use Rattle.nm_history.specs.History.{Happened, RecordedState, advancing, recorded_with, restarting}
use Rattle.nm_device_laws.specs.Moment.{Happens}
use Rattle.nm_recovery.specs.Recovery.{is_started, is_ended_in, verdict_in}
use Rattle.nm_decider.specs.declared.course.NextAction.TheVariants as next
use Rattle.nm_decider.specs.Course.{next_action}
use Rattle.nm_wire.specs.Link.{LinkState, session_of}
use Rattle.nm_wire.specs.Wire.{WireState, link_at, outstanding_at}
use Rattle.nm_manager.specs.Queues.{is_ready_in}
use Rattle.nm_manager.specs.Slot.{SideState, SlotState, breaks, decided, lost_memory, lost_wire, receives, renews, sends, told_wire, wires_on}
use Rattle.nm_manager.specs.Manager.{restarted_on, start_of, with_entry, with_slot, with_step}
use Rattle.nm_world.specs.declared.happened.Happened.TheVariants as happened
use Rattle.nm_world.specs.World.{Setting, CoreState, Came, by_manager, came, crashing, device_at, given_on, has_on, idle, is_side_open, manager_in, with_device, with_manager, with_opened}

-- ---- what an event is about

module _ {Config Node : Type 0} (w : CoreState Config Node) where
  -- what is kept of a change set, by its number
  pub record IsSlot (change : ℕ) : Type 0 where
    pub numbered : 1 ≤ change
    pub slot : SlotState
    pub there : slice_get w.slots (change - 1) ≡ Some slot

  -- a link of a change set to a device that is there
  pub record IsLink (change device link : ℕ) : Type 0 where
    pub numbered : 1 ≤ change
    pub slot : SlotState
    pub there : slice_get w.slots (change - 1) ≡ Some slot
    pub side : SideState
    pub at_side : slice_get slot.sides (device - 1) ≡ Some side
    pub one : LinkState
    pub at_link : link_at side.wire link ≡ Some one
    pub r : RecordedState Config Node
    pub here : device_at w device ≡ Some r

  -- an operator and a device
  pub record IsOperating (number device : ℕ) : Type 0 where
    pub operator : List (Option ℕ)
    pub there : slice_get w.operators (number - 1) ≡ Some operator
    pub r : RecordedState Config Node
    pub here : device_at w device ≡ Some r

  -- the wires of a change set to a device are others, and the device is another
  abbrev pub wired : {change device link : ℕ} → IsLink change device link → (WireState → WireState) → CoreState Config Node
  wired {change} {device} a happens =
      with_manager w (with_slot (manager_in w) change (wires_on happens a.slot device (Some a.side)))

  -- the same, where the device is another too
  abbrev pub wired_with : {change device link : ℕ} → IsLink change device link → (WireState → WireState) → RecordedState Config Node
      → CoreState Config Node
  wired_with {change} {device} a happens after =
      with_manager (with_device w device after) (with_slot (manager_in w) change (wires_on happens a.slot device (Some a.side)))

  -- the device is another, and the operator has the session that a reply gives it
  abbrev pub operated : {number device : ℕ} → IsOperating number device → RecordedState Config Node → Reply → CoreState Config Node
  operated {number} {device} a after reply =
      record (with_device w device after) { operators = slice_set w.operators (number - 1) (with_opened a.operator (device - 1) reply) }

module _ {Config TheEdit Node : Type 0} (setting : Setting TheEdit) (w : CoreState Config Node) where
  -- what is kept of a change set, with its plan
  pub record IsAt (change : ℕ) : Type 0 where
    pub numbered : 1 ≤ change
    pub plan : ChangePlan
    pub planned : slice_get setting.plans (change - 1) ≡ Some plan
    pub slot : SlotState
    pub there : slice_get w.slots (change - 1) ≡ Some slot

-- ---- what each kind of step owes

module _ {Config TheEdit Node : Type 0} (m : Meaning Config TheEdit Node) (setting : Setting TheEdit) where
  -- something happens at a device, and a reply is given
  pub record Answers (r : RecordedState Config Node) (event : DeviceEvent) : Type 0 where
    pub h : Happened Config Node
    pub happens : Happens m setting.tables r.device event h
    pub reply : Reply
    pub replies : h.reply ≡ Some reply

module _ {Config TheEdit Node : Type 0} (m : Meaning Config TheEdit Node) (setting : Setting TheEdit) (w : CoreState Config Node) where
  -- a goal holds at each kind of step
  pub record Cases (G : Event → Came Config Node → Type 0) : Type 0 where
    -- an event that doesn't apply
    pub nothing : (event : Event) → G event (idle w)
    -- the manager writes an entry: a change set is submitted, decided, ended
    pub starts : (change : ℕ) → 1 ≤ change → (plan : ChangePlan) → slice_get setting.plans (change - 1) ≡ Some plan
        → may_follow w.entries (start_of change plan) ≡ true
        → G (Submit change) (came (with_manager w (with_entry (manager_in w) (start_of change plan))) happened.Started)
    pub decides : (change : ℕ) (a : IsSlot w change) → is_ready_in w.entries change ≡ true → (v : Verdict)
        → next_action a.slot.course ≡ next.Decide v → may_follow w.entries (Decided change v) ≡ true
        → G (Turn change) (came (with_manager w (with_slot (with_entry (manager_in w) (Decided change v)) change (decided a.slot v)))
        (happened.Decided v))
    pub finishes : (change : ℕ) (a : IsSlot w change) → is_ready_in w.entries change ≡ true → (kept : DeviceMask)
        → next_action a.slot.course ≡ next.Finish kept → may_follow w.entries (Ended change kept) ≡ true
        → G (Turn change) (came (with_manager w (with_entry (manager_in w) (Ended change kept))) happened.Ended)
    -- it sends, hears and breaks
    pub sends_out : (change : ℕ) (a : IsAt setting w change) → is_ready_in w.entries change ≡ true → (device : ℕ) (what : Ask)
        → next_action a.slot.course ≡ next.Send device what
        → G (Turn change) (by_manager w (with_step (manager_in w) change (sends a.plan w.entries a.slot device what)))
    pub renews_timer : (change device : ℕ) (a : IsAt setting w change) → 1 ≤ device → is_ready_in w.entries change ≡ true
        → G (Renew change device) (by_manager w (with_step (manager_in w) change (renews a.plan w.entries a.slot device)))
    pub hears : (change device link number : ℕ) (a : IsSlot w change) → 1 ≤ device
        → G (Answer change device link number) (by_manager w (with_step (manager_in w) change (receives a.slot device link number)))
    pub breaks_off : (change device : ℕ) (a : IsSlot w change) → 1 ≤ device
        → G (Break change device) (by_manager w (with_step (manager_in w) change (breaks a.slot device)))
    -- it forgets
    pub forgets : (change : ℕ) (a : IsAt setting w change) → is_started change w.entries ≡ true → is_ended_in change w.entries ≡ false
        → G (Forget change) (came (with_manager w (with_slot (manager_in w) change
        (lost_memory a.slot (devices_in a.plan.edits) (verdict_in change w.entries)))) happened.Forgot)
    pub crashes : G Crash (crashing setting.plans w)
    -- a device does what a link asks: a request of a session, or one for a session
    pub tells : (change device link : ℕ) (a : IsLink w change device link) (request : Request)
        → outstanding_at a.side.wire link ≡ Some request → opening_user request ≡ None
        → (session : ℕ) → session_of a.one ≡ Some session → (d : Answers m setting a.r (Asked session request))
        → G (Deliver change device link) (came (wired_with w a (told_wire link d.reply) (recorded_with a.r (Asked session request) d.h))
        (happened.Replied d.reply d.h.undone))
    pub opens : (change device link : ℕ) (a : IsLink w change device link) (user : List ℕ)
        → outstanding_at a.side.wire link ≡ Some (OpenSession user) → (d : Answers m setting a.r (Entered user))
        → G (Deliver change device link) (came (wired_with w a (told_wire link d.reply) (recorded_with a.r (Entered user) d.h))
        (happened.Replied d.reply d.h.undone))
    -- a link ends at the device, with its session where it has one
    pub loses_session : (change device link : ℕ) (a : IsLink w change device link)
        → is_side_open a.r a.side.wire link ≡ true → (session : ℕ) → session_of a.one ≡ Some session
        → (h : Happened Config Node) → Happens m setting.tables a.r.device (Lost session) h
        → G (Lose change device link) (came (wired_with w a (lost_wire link) (recorded_with a.r (Lost session) h)) (happened.Lost h.undone))
    pub closes : (change device link : ℕ) (a : IsLink w change device link)
        → is_side_open a.r a.side.wire link ≡ true → session_of a.one ≡ None
        → G (Lose change device link) (came (wired w a (lost_wire link)) (happened.Lost false))
    -- a device by itself
    pub restarts : (device : ℕ) (r : RecordedState Config Node) → device_at w device ≡ Some r
        → G (Restart device) (came (with_manager (with_device w device (recorded_with r Restarted (restarting m r.device)))
        (restarted_on (manager_in w) device)) (happened.Restarted (restarting m r.device).undone))
    pub passes : (device seconds : ℕ) (r : RecordedState Config Node) → device_at w device ≡ Some r
        → G (Advance device seconds) (came (with_device w device (recorded_with r (Advanced seconds) (advancing m r.device seconds)))
        (happened.Now (r.device.clock + seconds) (advancing m r.device seconds).undone))
    -- an operator asks with its session, asks for one under its own name where it has none, and leaves
    pub asks : (number device : ℕ) (a : IsOperating w number device) (request : Request) → opening_user request ≡ None
        → (session : ℕ) → given_on a.operator (device - 1) ≡ Some session → is_open a.r.device.sessions session ≡ true
        → (d : Answers m setting a.r (Asked session request))
        → G (Foreign number device request) (came (operated w a (recorded_with a.r (Asked session request) d.h) d.reply)
        (happened.Replied d.reply d.h.undone))
    pub enters : (number device : ℕ) (a : IsOperating w number device) (user : List ℕ) → slice_get setting.users (number - 1) ≡ Some user
        → has_on a.operator a.r (device - 1) ≡ None → (d : Answers m setting a.r (Entered user))
        → G (Foreign number device (OpenSession user)) (came (operated w a (recorded_with a.r (Entered user) d.h) d.reply)
        (happened.Replied d.reply d.h.undone))
    pub leaves : (number device : ℕ) (a : IsOperating w number device)
        → (session : ℕ) → given_on a.operator (device - 1) ≡ Some session → is_open a.r.device.sessions session ≡ true
        → (h : Happened Config Node) → Happens m setting.tables a.r.device (Lost session) h
        → G (Leave number device) (came (with_device w device (recorded_with a.r (Lost session) h)) (happened.Left h.undone))
