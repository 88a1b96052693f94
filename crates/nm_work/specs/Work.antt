-- What a worker keeps of a change set beside its slot (this project's own): the course, and of each device the session that is
-- asked on and the resynchronisation. A worker has the answer to each request at once, so asking and hearing is one step.
use Rattle.std.specs.Prelude.{ℕ, ◌-◌, Bool, true, false, List, map, replicate, slice_get, slice_set, Option, Some, None}
use Rattle.nm_proto.specs.declared.ask.Ask.{Ask}
use Rattle.nm_proto.specs.declared.ask.Ask.TheVariants as ask
use Rattle.nm_proto.specs.declared.message.Reply.{Reply}
use Rattle.nm_proto.specs.declared.message.Reply.TheVariants as reply
use Rattle.nm_proto.specs.declared.journal.Verdict.{Verdict}
use Rattle.nm_decider.specs.Course.{CourseState, seat_count, new_course, with_sent, with_break, with_verdict}
use Rattle.nm_resync.specs.declared.resync.ResyncStage.{ResyncStage}
use Rattle.nm_resync.specs.declared.resync.ResyncStage.TheVariants.{Opening}
use Rattle.nm_resync.specs.Resync.{ResyncState, fresh_resync}
use Rattle.nm_manager.specs.Slot.{asked_in_fact, awaits_resync, resync_goes_on, learns, is_commit, to_commit}

-- the session of the change set that is open at a device, where one is, and how far its resynchronisation has come
pub record SideState : Type 0 where
  pub session : Option ℕ
  pub resync : ResyncState

-- the course, and the side of device d at place d - 1
pub record WorkState : Type 0 where
  pub course : CourseState
  pub sides : List SideState

-- nothing was asked of the device
abbrev pub fresh_side : SideState
fresh_side = record { session = None; resync = fresh_resync false }

-- nothing was asked for the change set
abbrev pub fresh_work : ℕ → ℕ → WorkState
fresh_work change devices = record { course = new_course change devices; sides = replicate seat_count fresh_side }

-- ---- one device

-- the side of a device
abbrev pub side_at : WorkState → ℕ → Option SideState
side_at work device = slice_get work.sides (device - 1)

abbrev pub session_of : Option SideState → Option ℕ
session_of None = None
session_of (Some side) = side.session

-- the session that is asked on at a device
abbrev pub session_at : WorkState → ℕ → Option ℕ
session_at work device = session_of (side_at work device)

abbrev pub asked_of : Option SideState → Ask → Ask
asked_of None what = what
asked_of (Some side) what = asked_in_fact side.resync what

-- what is asked of a device in fact: in a resynchronisation what that asks next
abbrev pub asked_at : WorkState → ℕ → Ask → Ask
asked_at work device what = asked_of (side_at work device) what

-- ---- a reply

-- a session that was asked for is open where it was given
abbrev pub session_opened : Reply → Option ℕ → Option ℕ
session_opened (reply.Opened opened) session = Some opened
session_opened _ session = session

-- a session that was to be closed is gone where that was done
abbrev pub session_closed : Reply → Option ℕ → Option ℕ
session_closed reply.Done session = None
session_closed _ session = session

-- the session after the reply to what was asked in fact
abbrev pub session_after : Ask → Reply → Option ℕ → Option ℕ
session_after ask.OpenSession told session = session_opened told session
session_after ask.CloseSession told session = session_closed told session
session_after _ told session = session

-- a side after that reply, which is one to its resynchronisation or not
abbrev pub heard : Bool → Ask → Reply → SideState → SideState
heard resyncs what told side = record { session = session_after what told side.session; resync = resync_goes_on resyncs side.resync told }

-- the same, by what is awaited of the device
abbrev pub heard_on : CourseState → ℕ → Ask → Reply → SideState → SideState
heard_on sent device what told side = heard (awaits_resync (slice_get sent.seats (device - 1))) what told side

-- the course and the side after that reply
abbrev pub heard_by : Bool → CourseState → List SideState → ℕ → Ask → Reply → SideState → WorkState
heard_by resyncs sent sides device what told side = record {
  course = learns resyncs sent device told (resync_goes_on resyncs side.resync told);
  sides = slice_set sides (device - 1) (heard resyncs what told side);
}

abbrev pub answered_on : CourseState → List SideState → ℕ → Ask → Reply → SideState → WorkState
answered_on sent sides device what told side =
    heard_by (awaits_resync (slice_get sent.seats (device - 1))) sent sides device what told side

abbrev pub answered_at : WorkState → ℕ → Ask → Reply → Option SideState → WorkState
answered_at work device what told None = work
answered_at work device what told (Some side) = answered_on (with_sent work.course device) work.sides device what told side

-- what comes next was asked of a device, in fact this, and was answered
abbrev pub answered : WorkState → ℕ → Ask → Reply → WorkState
answered work device what told = answered_at work device what told (side_at work device)

-- ---- a break

-- what comes next was asked of a device, and the call was broken: the session is gone, and what became of the device is to be
-- found out from the beginning
abbrev pub broken : WorkState → ℕ → WorkState
broken work device = record {
  course = with_break (with_sent work.course device) device;
  sides = slice_set work.sides (device - 1) (record { session = None; resync = fresh_resync (to_commit work.course.verdict) });
}

-- ---- the verdict

-- what became of a device is to be found out from the beginning
abbrev pub anew : Bool → SideState → SideState
anew commit side = record side { resync = fresh_resync commit }

-- the verdict stands, and each resynchronisation begins by it
abbrev pub decided : WorkState → Verdict → WorkState
decided work verdict = record { course = with_verdict work.course verdict; sides = map (anew (is_commit verdict)) work.sides }

-- ---- what can't go on

-- it asks for a session next
abbrev pub is_opening : ResyncStage → Bool
is_opening Opening = true
is_opening _ = false

abbrev pub is_fresh : Option SideState → Bool
is_fresh None = false
is_fresh (Some side) = is_opening side.resync.stage

abbrev pub is_stuck : Bool → Option SideState → Bool
is_stuck false side = false
is_stuck true side = is_fresh side

-- a resynchronisation of a device was asked and answered, and begins again: what it asked before it held the lock was refused
abbrev pub begins_again : WorkState → ℕ → Ask → Reply → Bool
begins_again work device what told =
    is_stuck (awaits_resync (slice_get (with_sent work.course device).seats (device - 1))) (side_at (answered work device what told) device)
