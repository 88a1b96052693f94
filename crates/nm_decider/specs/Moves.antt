-- Whole courses (this project's own): all that happens to a change set in one memory, of which the manager's own steps are those
-- that the next action tells.
use Rattle.std.specs.Prelude.{◌≡◌, ℕ, ◌+◌, ◌-◌, ◌==◌, List, [], ◌∷◌, Bool, true, false, ◌&&◌, ◌||◌, Option, Some, None, slice_get, if◌then◌else◌}
use Rattle.nm_proto.specs.declared.ask.Ask.{Ask}
use Rattle.nm_proto.specs.declared.ask.Ask.TheVariants as ask
use Rattle.nm_proto.specs.declared.message.Reply.{Reply}
use Rattle.nm_proto.specs.declared.journal.Verdict.{Verdict}
use Rattle.nm_decider_stage.specs.declared.stage.Stage.{Stage}
use Rattle.nm_decider_stage.specs.declared.stage.Stage.TheVariants.{Settled}
use Rattle.nm_decider_stage.specs.Stages.{next_ask, fits, is_acknowledged}
use Rattle.nm_decider.specs.declared.seat.Seat.{Seat}
use Rattle.nm_decider.specs.declared.course.NextAction.{NextAction}
use Rattle.nm_decider.specs.declared.course.NextAction.TheVariants as next
use Rattle.nm_decider.specs.Course.{CourseState, next_action, may_renew, with_sent, with_renewed, with_reply, with_break, with_verdict, with_settled}

-- what happens to a change set: a request or a renewal is on its way, a reply is handled, a link breaks, a verdict falls, a resynchronisation ends
pub data Move : Type 0 where
  Sent : (device : ℕ) → Move
  Renewed : (device : ℕ) → Move
  Answered : (device : ℕ) (reply : Reply) → Move
  Broke : (device : ℕ) → Move
  Decided : (verdict : Verdict) → Move
  Found : (device : ℕ) (kept : Bool) → Move

-- the course after a move
abbrev pub moved : CourseState → Move → CourseState
moved course (Sent device) = with_sent course device
moved course (Renewed device) = with_renewed course device
moved course (Answered device reply) = with_reply course device reply
moved course (Broke device) = with_break course device
moved course (Decided verdict) = with_verdict course verdict
moved course (Found device kept) = with_settled course device kept

-- the course after moves, oldest first
abbrev pub moved_on : CourseState → List Move → CourseState
moved_on course [] = course
moved_on course (move ∷ moves) = moved_on (moved course move) moves

-- what comes next is a request to this device
abbrev pub sends_to : NextAction → ℕ → Bool
sends_to (next.Send other what) device = other == device
sends_to _ device = false

-- the manager sends and decides as the next action tells, and renews where it may. Replies, breaks and what a resynchronisation
-- found come at any time
abbrev pub MayMove : CourseState → Move → Type 0
MayMove course (Sent device) = sends_to (next_action course) device ≡ true
MayMove course (Renewed device) = may_renew course device ≡ true
MayMove course (Decided verdict) = next_action course ≡ next.Decide verdict
MayMove course (Answered device reply) = Unit
MayMove course (Broke device) = Unit
MayMove course (Found device kept) = Unit

-- each of these comes as it may
abbrev pub IsDriven : CourseState → List Move → Type 0
IsDriven course [] = Unit
IsDriven course (move ∷ moves) = MayMove course move × IsDriven (moved course move) moves

-- ---- what was asked of a device, and done

-- what is asked is the confirmed commit
abbrev pub is_commit : Option Ask → Bool
is_commit (Some ask.CommitConfirmed) = true
is_commit _ = false

-- what is asked next of the device of a seat
abbrev pub next_of : CourseState → Option Seat → Option Ask
next_of course None = None
next_of course (Some seat) = next_ask course.verdict seat.stage

-- what the device of a seat was asked and hasn't answered
abbrev pub awaited_of : Option Seat → Option Ask
awaited_of None = None
awaited_of (Some seat) = seat.awaited

-- the move asks the confirmed commit of a device
abbrev pub asks_commit : ℕ → CourseState → Move → Bool
asks_commit device course (Sent other) = other == device && is_commit (next_of course (slice_get course.seats (device - 1)))
asks_commit device course _ = false

-- how often the confirmed commit is asked of a device
abbrev pub commits_asked : ℕ → CourseState → List Move → ℕ
commits_asked device course [] = 0
commits_asked device course (move ∷ moves) = (if asks_commit device course move then 1 else 0) + commits_asked device (moved course move) moves

-- the move is Done to the confirmed commit that was asked of the device at a place
abbrev pub does_commit : ℕ → CourseState → Move → Bool
does_commit place course (Answered other reply) =
    other - 1 == place && (is_commit (awaited_of (slice_get course.seats place)) && fits ask.CommitConfirmed reply)
does_commit place course _ = false

-- the device at a place answers Done to the confirmed commit
abbrev pub commit_done : ℕ → CourseState → List Move → Bool
commit_done place course [] = false
commit_done place course (move ∷ moves) = does_commit place course move || commit_done place (moved course move) moves

-- the device of a seat has acknowledged
abbrev pub has_acknowledged : Option Seat → Bool
has_acknowledged None = false
has_acknowledged (Some seat) = is_acknowledged seat.stage

-- ---- what stays of a seat

-- whether a settled device keeps the change set
abbrev pub settled_in : Stage → Option Bool
settled_in (Settled kept) = Some kept
settled_in _ = None

-- whether the device at a place is settled, and has kept the change set
abbrev pub settled_of : Option Seat → Option Bool
settled_of None = None
settled_of (Some seat) = settled_in seat.stage

-- the device of a seat is one of the change set
abbrev pub member_of : Option Seat → Bool
member_of None = false
member_of (Some seat) = seat.is_member
