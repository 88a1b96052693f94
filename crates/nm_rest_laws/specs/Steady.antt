-- What every run keeps of a change set, so that it is never stuck (this project's own).
use Rattle.std.specs.Prelude.{◌≡◌, ℕ, suc, ◌==◌, Bool, true, false, not, ◌&&◌, ◌||◌, nat_le, List, Option, Some, None, IfSome, is_some, slice_get}
use Rattle.nm_proto.specs.declared.ask.Ask.{Ask}
use Rattle.nm_proto.specs.declared.ask.Ask.TheVariants as ask
use Rattle.nm_proto.specs.declared.journal.AbortCause.{AbortCause}
use Rattle.nm_proto.specs.declared.journal.Entry.{Entry}
use Rattle.nm_proto.specs.declared.journal.Verdict.{Verdict}
use Rattle.nm_proto.specs.declared.journal.Verdict.TheVariants as verdict
use Rattle.nm_device.specs.Table.{is_opening}
use Rattle.nm_decider_stage.specs.declared.stage.Stage.{Stage}
use Rattle.nm_decider_stage.specs.declared.stage.Stage.TheVariants.{Live, Refused, Failed, NeedMark, Resync, Leaving, Settled}
use Rattle.nm_decider_stage.specs.Stages.{all_done}
use Rattle.nm_decider.specs.declared.seat.Seat.{Seat}
use Rattle.nm_wire.specs.declared.link.Way.{Way}
use Rattle.nm_wire.specs.declared.link.Way.TheVariants.{Quiet, Asked, Told}
use Rattle.nm_wire.specs.Link.{LinkState, session_of, ends}
use Rattle.nm_wire.specs.Wire.{WireState, current_link}
use Rattle.nm_manager.specs.Slot.{SlotState}
use Rattle.nm_manager.specs.Queues.{is_ready_in}
use Rattle.nm_manager.specs.Manager.{wire_in}
use Rattle.nm_world.specs.World.{WorldState, core_of, manager_in}

-- ---- the course

-- nothing is awaited, or the reply to a confirm
abbrev pub confirms_or_quiet : Option Ask → Bool
confirms_or_quiet None = true
confirms_or_quiet (Some ask.Confirm) = true
confirms_or_quiet _ = false

-- the device is at one of its own stages
abbrev pub is_live : Stage → Bool
is_live (Live done) = nat_le done all_done
is_live _ = false

-- a stage is right while nothing is decided
abbrev pub right_calm : Option AbortCause → Stage → Bool
right_calm None stage = is_live stage
right_calm (Some why) stage = true

-- a stage is right under Commit
abbrev pub right_commit : Stage → Option Ask → Bool
right_commit (Live done) awaited = done == all_done && confirms_or_quiet awaited
right_commit Refused awaited = false
right_commit Failed awaited = false
right_commit NeedMark awaited = true
right_commit Resync awaited = true
right_commit (Leaving kept) awaited = true
right_commit (Settled kept) awaited = true

-- a stage is right under Abort
abbrev pub right_abort : Stage → Option Ask → Bool
right_abort (Live done) awaited = not (done == 0) || is_some awaited
right_abort Refused awaited = false
right_abort Failed awaited = true
right_abort NeedMark awaited = false
right_abort Resync awaited = true
right_abort (Leaving kept) awaited = true
right_abort (Settled kept) awaited = true

-- a stage from which the change set can go on: undecided and without trouble each device is live; under a commit each has
-- acknowledged, or is found out anew; under an abort what was refused is over
abbrev pub is_right : Option Verdict → Option AbortCause → Stage → Option Ask → Bool
is_right None trouble stage awaited = right_calm trouble stage
is_right (Some verdict.Commit) trouble stage awaited = right_commit stage awaited
is_right (Some (verdict.Abort why)) trouble stage awaited = right_abort stage awaited

-- ---- links

-- a session is asked for on a link that has none, and the device's side has ended where the manager's will
abbrev pub IsTrueBy : LinkState → Way → Type 0
IsTrueBy link Quiet = Unit {0}
IsTrueBy link (Asked request) = is_opening request ≡ true → session_of link ≡ None
IsTrueBy link (Told exchange) = ends exchange.request exchange.reply ≡ true → link.is_open ≡ false

-- what a link was told is so
abbrev pub IsTrue : LinkState → Type 0
IsTrue link = IsTrueBy link link.way

-- the current link has a session, but while one is asked for, and where one was refused
abbrev pub IsServedBy : LinkState → Way → Type 0
IsServedBy link Quiet = is_some (session_of link) ≡ true
IsServedBy link (Asked request) = is_opening request ≡ false → is_some (session_of link) ≡ true
IsServedBy link (Told exchange) = ends exchange.request exchange.reply ≡ false → is_some (session_of link) ≡ true

-- a link's session is the one that its device gave it
abbrev pub IsServed : LinkState → Type 0
IsServed link = IsServedBy link link.way

-- there is a current link, and it is so
abbrev pub HasServed : Option LinkState → Type 0
HasServed None = ⊥
HasServed (Some link) = IsServed link

-- the links to a device are steady
pub record IsSteady (wire : WireState) : Type 0 where
  pub current : is_some wire.current ≡ true → HasServed (current_link wire)
  pub each : (place : ℕ) → IfSome (slice_get wire.links place) IsTrue

-- ---- a change set

-- a device of the change set is at a right stage
abbrev pub IsRightSeat : Option Verdict → Option AbortCause → Seat → Type 0
IsRightSeat decided trouble seat = seat.is_member ≡ true → is_right decided trouble seat.stage seat.awaited ≡ true

-- it isn't stuck, and has a current link only where it is ready
pub record IsAble (change : ℕ) (entries : List Entry) (slot : SlotState) : Type 0 where
  pub course : (j : ℕ) → IfSome (slice_get slot.course.seats j) (IsRightSeat slot.course.verdict slot.course.trouble)
  pub wires : (j : ℕ) → IfSome (slice_get slot.sides j) (λ side. IsSteady side.wire)
  pub ready : (j : ℕ) → IfSome (slice_get slot.sides j) (λ side. is_some side.wire.current ≡ true → is_ready_in entries change ≡ true)

-- ---- a world

-- each change set can go on, and to a device links are current for one change set at most
pub record IsOrderly {Config Node : Type 0} (w : WorldState Config Node) : Type 0 where
  -- change set c stands at place c - 1
  pub able : (place : ℕ) → IfSome (slice_get w.slots place) (IsAble (suc place) w.entries)
  pub alone : (p q d : ℕ) → is_some (wire_in (manager_in (core_of w)) (suc p) (suc d)).current ≡ true
      → is_some (wire_in (manager_in (core_of w)) (suc q) (suc d)).current ≡ true → p ≡ q
