-- What the manager keeps of one change set (this project's own): its course, and for each device the links and the
-- resynchronisation. That of device d stands at place d - 1. Each step is a change of the course and of one side.
use Rattle.std.specs.Prelude.{◌≡◌, ℕ, ◌-◌, List, map, replicate, slice_get, slice_set, Bool, true, false, Option, Some, None}
use Rattle.nm_proto.specs.declared.ask.Ask.{Ask}
use Rattle.nm_proto.specs.declared.ask.Ask.TheVariants as ask
use Rattle.nm_proto.specs.declared.message.Request.{Request}
use Rattle.nm_proto.specs.declared.message.Reply.{Reply}
use Rattle.nm_proto.specs.declared.journal.Entry.{Entry}
use Rattle.nm_proto.specs.declared.journal.Verdict.{Verdict}
use Rattle.nm_proto.specs.declared.journal.Verdict.TheVariants as verdict
use Rattle.nm_proto.specs.declared.plan.ChangePlan.{ChangePlan}
use Rattle.nm_decider.specs.declared.seat.Seat.{Seat}
use Rattle.nm_decider.specs.Course as course
use Rattle.nm_decider.specs.Course.{CourseState, seat_count}
use Rattle.nm_resync.specs.Resync as resync
use Rattle.nm_resync.specs.Resync.{ResyncState, fresh_resync, resync_ask, settled_in}
use Rattle.nm_wire.specs.declared.link.Exchange.{Exchange}
use Rattle.nm_wire.specs.Wire as wire
use Rattle.nm_wire.specs.Wire.{WireState, no_links, is_left_open, begun, sent, handled, broken, told, lost, restarted, due}
use Rattle.nm_manager.specs.declared.action.Action.{Action}
use Rattle.nm_manager.specs.declared.action.Action.TheVariants as action
use Rattle.nm_manager.specs.Requests.{request_for}

-- the links to a device, and the resynchronisation there
pub record SideState : Type 0 where
  pub wire : WireState
  pub resync : ResyncState

-- what is kept of a change set: its course, and a side for each device
pub record SlotState : Type 0 where
  pub course : CourseState
  pub sides : List SideState

-- no link was made
abbrev pub fresh_side : SideState
fresh_side = record { wire = no_links; resync = fresh_resync false }

-- nothing is known, and no link was made
abbrev pub fresh_slot : ℕ → ℕ → SlotState
fresh_slot change devices = record { course = course.new_course change devices; sides = replicate seat_count fresh_side }

-- ---- what it is made of

-- the side of a device
abbrev pub side_at : SlotState → ℕ → Option SideState
side_at slot device = slice_get slot.sides (device - 1)

-- a side with other links
abbrev pub with_wire : SideState → WireState → SideState
with_wire side now = record side { wire = now }

-- another side of a device
abbrev pub with_side : SlotState → ℕ → SideState → SlotState
with_side slot device side = record slot { sides = slice_set slot.sides (device - 1) side }

-- an action, and the course and the side of the device after it
pub record PairStep : Type 0 where
  pub action : Action
  pub course : CourseState
  pub side : SideState

-- an action, and what is kept of the change set after it
pub record SlotStep : Type 0 where
  pub action : Action
  pub slot : SlotState

-- nothing is done
abbrev pub nothing : CourseState → SideState → PairStep
nothing now side = record { action = action.Idle; course = now; side = side }

-- a step of one device, put in its place
abbrev pub with_pair : SlotState → ℕ → PairStep → SlotStep
with_pair slot device step = record {
  action = step.action;
  slot = record { course = step.course; sides = slice_set slot.sides (device - 1) step.side };
}

-- nothing is done
abbrev pub unchanged : SlotState → SlotStep
unchanged slot = record { action = action.Idle; slot = slot }

-- ---- a request goes out

-- what is asked in fact: of a device in a resynchronisation, what that asks
abbrev pub asked_in_fact : ResyncState → Ask → Ask
asked_in_fact now ask.Resync = resync_ask now.commit now.stage
asked_in_fact now what = what

-- it asks for a session
abbrev pub opens : Ask → Bool
opens ask.OpenSession = true
opens _ = false

-- a session is asked for on a new link; anything else goes out on the current link, where nothing is on its way
abbrev pub may_go : Bool → WireState → Bool
may_go true links = true
may_go false links = wire.may_send links

-- the links after a request went out, on a new link or on the current one
abbrev pub gone : Bool → WireState → Request → WireState
gone true links request = begun links request
gone false links request = sent links request

-- the number of a link, 0 where there is none
abbrev pub number_of : Option ℕ → ℕ
number_of None = 0
number_of (Some number) = number

-- a request went out, on a new link or on the current one; the action carries it
abbrev pub sent_to : Bool → ℕ → CourseState → SideState → Request → PairStep
sent_to new device now side request = record {
  action = action.Sent device (number_of (gone new side.wire request).current) request;
  course = now;
  side = with_wire side (gone new side.wire request);
}

-- a request goes out where it may
abbrev pub sends_if : Bool → Bool → ℕ → CourseState → CourseState → SideState → Request → PairStep
sends_if true new device before now side request = sent_to new device now side request
sends_if false new device before now side request = nothing before side

-- a request goes out where there is one; the course is another then
abbrev pub sends_request : Bool → ℕ → CourseState → CourseState → SideState → Option Request → PairStep
sends_request new device before now side None = nothing before side
sends_request new device before now side (Some request) = sends_if (may_go new side.wire) new device before now side request

-- this is asked in fact
abbrev pub sends_in_fact : ChangePlan → List Entry → CourseState → SideState → ℕ → Ask → PairStep
sends_in_fact plan entries now side device in_fact =
    sends_request (opens in_fact) device now (course.with_sent now device) side (request_for plan entries now.change device in_fact)

-- this is asked of a device
abbrev pub sends_pair : ChangePlan → List Entry → ℕ → Ask → CourseState → SideState → PairStep
sends_pair plan entries device what now side = sends_in_fact plan entries now side device (asked_in_fact side.resync what)

-- the timer is set anew, where it may be
abbrev pub renews_if : Bool → ChangePlan → List Entry → CourseState → SideState → ℕ → PairStep
renews_if false plan entries now side device = nothing now side
renews_if true plan entries now side device =
    sends_request false device now (course.with_renewed now device) side (request_for plan entries now.change device ask.Renew)

-- the timer of the pending commit of a device is set anew, where it may be
abbrev pub renews_pair : ChangePlan → List Entry → ℕ → CourseState → SideState → PairStep
renews_pair plan entries device now side = renews_if (course.may_renew now device) plan entries now side device

-- ---- a reply is handled

-- a reply to a resynchronisation is awaited
abbrev pub is_resync : Option Ask → Bool
is_resync (Some ask.Resync) = true
is_resync _ = false

-- the same of a seat, where there is one
abbrev pub awaits_resync : Option Seat → Bool
awaits_resync None = false
awaits_resync (Some seat) = is_resync seat.awaited

-- what a resynchronisation found comes to the course, where it found something
abbrev pub settled_by : CourseState → ℕ → Option Bool → CourseState
settled_by now device None = now
settled_by now device (Some kept) = course.with_settled now device kept

-- what a reply tells the course: where it is one to a resynchronisation, whose stage is this then, what that has found too
abbrev pub learns : Bool → CourseState → ℕ → Reply → ResyncState → CourseState
learns false now device reply next = course.with_reply now device reply
learns true now device reply next = settled_by (course.with_reply now device reply) device (settled_in next.stage)

-- a resynchronisation goes on by the replies to its own requests alone
abbrev pub resync_goes_on : Bool → ResyncState → Reply → ResyncState
resync_goes_on false now reply = now
resync_goes_on true now reply = resync.with_reply now reply

-- a reply is handled: the course learns, and the resynchronisation goes on
abbrev pub hears : Bool → CourseState → SideState → ℕ → WireState → Reply → PairStep
hears resyncs now side device links reply = record {
  action = action.Handled;
  course = learns resyncs now device reply (resync_goes_on resyncs side.resync reply);
  side = record { wire = links; resync = resync_goes_on resyncs side.resync reply };
}

-- a reply is handled, where it is due
abbrev pub receives_due : Bool → CourseState → SideState → ℕ → WireState → Option Exchange → PairStep
receives_due resyncs now side device links None = nothing now side
receives_due resyncs now side device links (Some exchange) = hears resyncs now side device links exchange.reply

-- the reply of this number on a link is handled, where it is the next one on the current link
abbrev pub receives_pair : ℕ → ℕ → ℕ → CourseState → SideState → PairStep
receives_pair device link number now side =
    receives_due (awaits_resync (slice_get now.seats (device - 1))) now side device (handled side.wire link number) (due side.wire link number)

-- ---- it is decided

-- it is to be committed
abbrev pub is_commit : Verdict → Bool
is_commit verdict.Commit = true
is_commit (verdict.Abort why) = false

-- it is decided to be committed
abbrev pub to_commit : Option Verdict → Bool
to_commit None = false
to_commit (Some decided) = is_commit decided

-- what became of a device is to be found out from the beginning
abbrev pub anew : Bool → SideState → SideState
anew commit side = record side { resync = fresh_resync commit }

-- the verdict stands, and each resynchronisation begins by it
abbrev pub decided : SlotState → Verdict → SlotState
decided slot now = record { course = course.with_verdict slot.course now; sides = map (anew (is_commit now)) slot.sides }

-- ---- links break, and memory is lost

-- the current link of a device is no more
abbrev pub cut_off : Bool → SideState → SideState
cut_off commit side = record { wire = broken side.wire; resync = fresh_resync commit }

-- the current link breaks, where there is one
abbrev pub breaks_current : CourseState → SideState → ℕ → Option ℕ → PairStep
breaks_current now side device None = nothing now side
breaks_current now side device (Some number) =
    record { action = action.Broken; course = course.with_break now device; side = cut_off (to_commit now.verdict) side }

-- the current link to a device breaks, where there is one
abbrev pub breaks_pair : ℕ → CourseState → SideState → PairStep
breaks_pair device now side = breaks_current now side device side.wire.current

-- what was known is lost: the change set goes on from its verdict in the journal, and no link is current
abbrev pub lost_memory : SlotState → ℕ → Option Verdict → SlotState
lost_memory slot devices found = record {
  course = course.recovered_course slot.course.change devices found;
  sides = map (cut_off (to_commit found)) slot.sides;
}

-- ---- one device of a change set

-- a step for a device, where it has a side
abbrev pub on_side : (CourseState → SideState → PairStep) → SlotState → ℕ → Option SideState → SlotStep
on_side step slot device None = unchanged slot
on_side step slot device (Some side) = with_pair slot device (step slot.course side)

-- this is asked of a device
abbrev pub sends : ChangePlan → List Entry → SlotState → ℕ → Ask → SlotStep
sends plan entries slot device what = on_side (sends_pair plan entries device what) slot device (side_at slot device)

-- the timer of the pending commit of a device is set anew, where it may be
abbrev pub renews : ChangePlan → List Entry → SlotState → ℕ → SlotStep
renews plan entries slot device = on_side (renews_pair plan entries device) slot device (side_at slot device)

-- the reply of this number on a link is handled, where it is the next one on the current link
abbrev pub receives : SlotState → ℕ → ℕ → ℕ → SlotStep
receives slot device link number = on_side (receives_pair device link number) slot device (side_at slot device)

-- the current link to a device breaks, where there is one
abbrev pub breaks : SlotState → ℕ → SlotStep
breaks slot device = on_side (breaks_pair device) slot device (side_at slot device)

-- the links of a side
abbrev pub wire_of_side : Option SideState → WireState
wire_of_side None = no_links
wire_of_side (Some side) = side.wire

-- the device answers what a link has outstanding
abbrev pub told_wire : ℕ → Reply → WireState → WireState
told_wire link reply links = told links link reply

-- the device's side of a link ends
abbrev pub lost_wire : ℕ → WireState → WireState
lost_wire link links = lost links link

-- the links to a device are others
abbrev pub wires_on : (WireState → WireState) → SlotState → ℕ → Option SideState → SlotState
wires_on happens slot device None = slot
wires_on happens slot device (Some side) = with_side slot device (with_wire side (happens side.wire))

-- the device restarts
abbrev pub restarted_slot : ℕ → SlotState → SlotState
restarted_slot device slot = wires_on restarted slot device (side_at slot device)

-- of these sides no link is left open: one that isn't current has no open side at its device
abbrev pub IsNoneLeft : List SideState → Type 0
IsNoneLeft sides = (place link : ℕ) → is_left_open (wire_of_side (slice_get sides place)) link ≡ false
