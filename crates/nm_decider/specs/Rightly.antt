-- That the next action is a right one (this project's own), in words of the seats alone: which device comes next plays no part.
use Rattle.std.specs.Prelude.{◌≡◌, ℕ, ◌+◌, ◌-◌, ◌≤◌, ◌<◌, true, false, ◌&&◌, Some, None, IsSome, slice_get}
use Rattle.std.specs.List.{list_any, All}
use Rattle.nm_base.specs.Mask.{mask_contains}
use Rattle.nm_base.specs.declared.mask.DeviceMask.{DeviceMask}
use Rattle.nm_proto.specs.declared.ask.Ask.{Ask}
use Rattle.nm_proto.specs.declared.journal.AbortCause.{AbortCause}
use Rattle.nm_proto.specs.declared.journal.Verdict.TheVariants as verdict
use Rattle.nm_decider_stage.specs.Stages.{next_ask, is_acknowledged, is_settled, has_kept}
use Rattle.nm_decider.specs.declared.seat.Seat.{Seat}
use Rattle.nm_decider.specs.declared.course.NextAction.TheVariants.{Wait, Send, Decide, Finish}
use Rattle.nm_decider.specs.Course.{CourseState, next_action, awaits, may_send, wants_acknowledgement}

-- what is asked next of a device of the change set that awaits no reply
pub record IsAsked (course : CourseState) (device : ℕ) (what : Ask) : Type 0 where
  pub seat : Seat
  pub here : slice_get course.seats (device - 1) ≡ Some seat
  pub numbered : 1 ≤ device
  pub member : seat.is_member ≡ true
  pub quiet : seat.awaited ≡ None
  pub next : next_ask course.verdict seat.stage ≡ Some what

-- a device of the change set has acknowledged, and awaits nothing
pub record IsReady (seat : Seat) : Type 0 where
  pub acknowledged : is_acknowledged seat.stage ≡ true
  pub quiet : seat.awaited ≡ None

-- a change set may be committed: undecided, without trouble, and each of its devices has acknowledged and awaits nothing
pub record MayCommit (course : CourseState) : Type 0 where
  pub undecided : course.verdict ≡ None
  pub calm : course.trouble ≡ None
  pub ready : All (λ seat. seat.is_member ≡ true → IsReady seat) course.seats

-- a change set may be aborted for this cause: undecided, and the cause was noted
pub record MayAbort (course : CourseState) (why : AbortCause) : Type 0 where
  pub undecided : course.verdict ≡ None
  pub noted : course.trouble ≡ Some why

-- all devices of the change set are settled, and these have kept it
pub record MayEnd (course : CourseState) (kept : DeviceMask) : Type 0 where
  pub decided : IsSome course.verdict
  pub settled : All (λ seat. seat.is_member ≡ true → is_settled seat.stage ≡ true) course.seats
  pub kept_them : (place : ℕ) (seat : Seat) → slice_get course.seats place ≡ Some seat
      → mask_contains kept.0 (place + 1) ≡ (seat.is_member && has_kept seat.stage)

-- each of the four next actions comes only where it may
pub record ActsRightly (course : CourseState) : Type 0 where
  pub sends : (device : ℕ) (what : Ask) → next_action course ≡ Send device what → IsAsked course device what
  pub commits : next_action course ≡ Decide verdict.Commit → MayCommit course
  pub aborts : (why : AbortCause) → next_action course ≡ Decide (verdict.Abort why) → MayAbort course why
  pub finishes : (kept : DeviceMask) → next_action course ≡ Finish kept → MayEnd course kept

-- which device is asked after the decision: of those that may be, none was sent fewer requests, and none of a lesser number as few
pub record IsLeastBusy (course : CourseState) (device : ℕ) : Type 0 where
  pub seat : Seat
  pub here : slice_get course.seats (device - 1) ≡ Some seat
  pub fewest : (place : ℕ) (other : Seat) → slice_get course.seats place ≡ Some other → may_send course.verdict other ≡ true
      → seat.sent ≤ other.sent
  pub first : (place : ℕ) (other : Seat) → slice_get course.seats place ≡ Some other → may_send course.verdict other ≡ true
      → other.sent ≤ seat.sent → device ≤ place + 1

-- and before it: each device of a lesser number has acknowledged
abbrev pub IsNextInOrder : CourseState → ℕ → Type 0
IsNextInOrder course device =
    (place : ℕ) (other : Seat) → place + 1 < device → slice_get course.seats place ≡ Some other → wants_acknowledgement other ≡ false

-- requests go to the devices in order: until the decision one device after another, and after it the least busy first
pub record TakesInOrder (course : CourseState) : Type 0 where
  pub undecided : (device : ℕ) (what : Ask) → course.verdict ≡ None → next_action course ≡ Send device what → IsNextInOrder course device
  pub decided : (device : ℕ) (what : Ask) → IsSome course.verdict → next_action course ≡ Send device what → IsLeastBusy course device

-- a device of the change set has not acknowledged, and nothing is to be asked of it
pub record IsStuck (course : CourseState) : Type 0 where
  pub place : ℕ
  pub seat : Seat
  pub here : slice_get course.seats place ≡ Some seat
  pub wants : wants_acknowledgement seat ≡ true
  pub nothing : next_ask course.verdict seat.stage ≡ None

-- the manager waits only for replies: before the decision one is awaited, or a device is stuck; after it no device may be asked
pub record WaitsRightly (course : CourseState) : Type 0 where
  pub undecided : course.verdict ≡ None → next_action course ≡ Wait → list_any awaits course.seats ≡ false → IsStuck course
  pub decided : IsSome course.verdict → next_action course ≡ Wait → All (λ seat. may_send course.verdict seat ≡ false) course.seats
