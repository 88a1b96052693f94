-- The course of one change set: what the manager knows of each device, and what it does next (this project's own). It is a
-- function of the requests sent, the replies handled, the breaks and the verdict. The seat of device d stands at place d - 1.
use Rattle.std.specs.Prelude.{ℕ, zero, suc, ◌+◌, ◌-◌, ◌*◌, ◌%◌, ◌^◌, List, [], ◌∷◌, map, position, slice_get, slice_set, Bool, false, not, ◌&&◌, nat_le, bit_or, Option, Some, None, is_some, is_none, if◌then◌else◌}
use Rattle.std.specs.List.{list_any}
use Rattle.nm_base.specs.Count.{raised}
use Rattle.nm_base.specs.Mask.{mask_contains}
use Rattle.nm_proto.specs.declared.ask.Ask.{Ask}
use Rattle.nm_proto.specs.declared.ask.Ask.TheVariants as ask
use Rattle.nm_proto.specs.declared.message.Reply.{Reply}
use Rattle.nm_proto.specs.declared.journal.AbortCause.{AbortCause}
use Rattle.nm_proto.specs.declared.journal.AbortCause.TheVariants as cause
use Rattle.nm_proto.specs.declared.journal.Verdict.{Verdict}
use Rattle.nm_proto.specs.declared.journal.Verdict.TheVariants as verdict
use Rattle.nm_decider_stage.specs.declared.stage.Stage.{Stage}
use Rattle.nm_decider_stage.specs.declared.stage.Stage.TheVariants as stage
use Rattle.nm_decider_stage.specs.Stages.{next_ask, learnt, trouble_in, is_acknowledged, is_settled, has_kept, aborted_stage, broken_stage}
use Rattle.nm_decider.specs.declared.seat.Seat.{Seat}
use Rattle.nm_decider.specs.declared.course.NextAction.{NextAction}
use Rattle.nm_decider.specs.declared.course.NextAction.TheVariants.{Wait, Send, Decide, Finish}

-- the course of one change set: its number, its verdict, and what is known of each device, in the order of their numbers
pub record CourseState : Type 0 where
  pub change : ℕ
  pub verdict : Option Verdict
  -- why the change set is to be aborted, as it was noted first
  pub trouble : Option AbortCause
  pub seats : List Seat

-- how many devices there may be
abbrev pub seat_count : ℕ
seat_count = 32

-- ---- the beginning

-- a device's seat at the beginning: whether the change set is at it, and its first stage
abbrev pub seat_of : ℕ → Stage → ℕ → Seat
seat_of devices first device = record { is_member = mask_contains devices device; stage = first; awaited = None; sent = 0 }

-- so many seats from a device on
unfoldable pub seats_from : ℕ → Stage → ℕ → ℕ → List Seat
seats_from devices first device zero = []
seats_from devices first device (suc count) = seat_of devices first device ∷ seats_from devices first (device + 1) count

-- a change set that was submitted: no link was made
abbrev pub new_course : ℕ → ℕ → CourseState
new_course change devices = record { change = change; verdict = None; trouble = None; seats = seats_from devices (stage.Live 0) 1 seat_count }

-- what lost memory means for a change set: where it was undecided, a cause to abort it
abbrev pub lost_memory : Option Verdict → Option AbortCause
lost_memory None = Some cause.Forgotten
lost_memory (Some decided) = None

-- a change set whose memory was lost, by what the journal has of it: each device is found out anew
abbrev pub recovered_course : ℕ → ℕ → Option Verdict → CourseState
recovered_course change devices decided =
    record { change = change; verdict = decided; trouble = lost_memory decided; seats = seats_from devices stage.Resync 1 seat_count }

-- ---- what happens

-- the course with another seat for a device
abbrev pub with_seat : CourseState → ℕ → Seat → CourseState
with_seat course device seat = record course { seats = slice_set course.seats (device - 1) seat }

-- a cause is noted while it is undecided, the first alone
abbrev pub noted : Option Verdict → Option AbortCause → Option AbortCause → Option AbortCause
noted decided (Some first) later = Some first
noted None None later = later
noted (Some decided) None later = None

-- what was asked next is on its way
abbrev pub asked_next : Option Verdict → Seat → Seat
asked_next decided seat = record seat { awaited = next_ask decided seat.stage; sent = raised seat.sent }

-- the course once what comes next is asked of a device, where it has a seat
abbrev pub with_sent_at : CourseState → ℕ → Option Seat → CourseState
with_sent_at course device None = course
with_sent_at course device (Some seat) = with_seat course device (asked_next course.verdict seat)

-- the course once what comes next is asked of a device
abbrev pub with_sent : CourseState → ℕ → CourseState
with_sent course device = with_sent_at course device (slice_get course.seats (device - 1))

-- a seat whose renewal is on its way
abbrev pub renewed : Seat → Seat
renewed seat = record seat { awaited = Some ask.Renew; sent = raised seat.sent }

-- the course once a renewal is asked of a device, where it has a seat
abbrev pub with_renewed_at : CourseState → ℕ → Option Seat → CourseState
with_renewed_at course device None = course
with_renewed_at course device (Some seat) = with_seat course device (renewed seat)

-- a renewal is on its way
abbrev pub with_renewed : CourseState → ℕ → CourseState
with_renewed course device = with_renewed_at course device (slice_get course.seats (device - 1))

-- the course once a reply is handled, where one was awaited: the device's stage goes on, and a refusal is noted
abbrev pub with_answer : CourseState → ℕ → Reply → Seat → Option Ask → CourseState
with_answer course device reply seat None = course
with_answer course device reply seat (Some what) =
    record (with_seat course device (record seat { stage = learnt course.verdict seat.stage what reply; awaited = None })) {
      trouble = noted course.verdict course.trouble (trouble_in device what reply);
    }

-- the same where the device has a seat
abbrev pub with_reply_at : CourseState → ℕ → Reply → Option Seat → CourseState
with_reply_at course device reply None = course
with_reply_at course device reply (Some seat) = with_answer course device reply seat seat.awaited

-- the reply to what was asked of a device is handled
abbrev pub with_reply : CourseState → ℕ → Reply → CourseState
with_reply course device reply = with_reply_at course device reply (slice_get course.seats (device - 1))

-- the course once a device's link broke, where it has a seat: nothing is awaited, and the break is noted
abbrev pub with_break_at : CourseState → ℕ → Option Seat → CourseState
with_break_at course device None = course
with_break_at course device (Some seat) =
    record (with_seat course device (record seat { stage = broken_stage seat.stage; awaited = None })) {
      trouble = noted course.verdict course.trouble (Some (cause.Broken device));
    }

-- the link to a device broke
abbrev pub with_break : CourseState → ℕ → CourseState
with_break course device = with_break_at course device (slice_get course.seats (device - 1))

-- a seat once the verdict stands: an abort may settle it at once
abbrev pub decided_seat : Verdict → Seat → Seat
decided_seat verdict.Commit seat = record seat { sent = 0 }
decided_seat (verdict.Abort why) seat = record seat { stage = aborted_stage (is_some seat.awaited) seat.stage; sent = 0 }

-- the verdict stands: requests are counted anew
abbrev pub with_verdict : CourseState → Verdict → CourseState
with_verdict course decided = record course { verdict = Some decided; seats = map (decided_seat decided) course.seats }

-- the course once a resynchronisation has found its outcome, where one was wanted
abbrev pub with_found : CourseState → ℕ → Bool → Seat → Stage → CourseState
with_found course device kept seat stage.Resync = with_seat course device (record seat { stage = stage.Settled kept; awaited = None })
with_found course device kept seat _ = course

-- the same where the device has a seat
abbrev pub with_settled_at : CourseState → ℕ → Bool → Option Seat → CourseState
with_settled_at course device kept None = course
with_settled_at course device kept (Some seat) = with_found course device kept seat seat.stage

-- the resynchronisation of a device has found whether it kept the change set
abbrev pub with_settled : CourseState → ℕ → Bool → CourseState
with_settled course device kept = with_settled_at course device kept (slice_get course.seats (device - 1))

-- ---- what comes next

-- a device of the change set awaits a reply
abbrev pub awaits : Seat → Bool
awaits seat = seat.is_member && is_some seat.awaited

-- a device of the change set hasn't acknowledged
abbrev pub wants_acknowledgement : Seat → Bool
wants_acknowledgement seat = seat.is_member && not (is_acknowledged seat.stage)

-- a device of the change set isn't settled
abbrev pub wants_settling : Seat → Bool
wants_settling seat = seat.is_member && not (is_settled seat.stage)

-- a device of the change set that awaits no reply and of which something is to be asked
abbrev pub may_send : Option Verdict → Seat → Bool
may_send decided seat = seat.is_member && (is_none seat.awaited && is_some (next_ask decided seat.stage))

-- a place, and how many requests were sent there since the decision
pub record Choice : Type 0 where
  pub count : ℕ
  pub place : ℕ

-- a place as one to act on, where something may be asked there
abbrev pub choice_of : Option Verdict → ℕ → Seat → Option Choice
choice_of decided place seat = if may_send decided seat then Some (record { count = seat.sent; place = place }) else None

-- the one with fewer requests, the first among equals
abbrev pub fewer : Option Choice → Option Choice → Option Choice
fewer None other = other
fewer (Some one) None = Some one
fewer (Some one) (Some other) = if nat_le one.count other.count then Some one else Some other

-- a count and its place, as the code carries them
abbrev pub chosen : Option (ℕ × ℕ) → Option Choice
chosen None = None
chosen (Some best) = Some (record { count = best.0; place = best.1 })

-- the device to act on from a place on: the fewest requests sent since the decision, the least number among equals
abbrev pub fewest_from : Option Verdict → ℕ → List Seat → Option Choice
fewest_from decided place [] = None
fewest_from decided place (seat ∷ seats) = fewer (choice_of decided place seat) (fewest_from decided (place + 1) seats)

-- a request to send, or to wait where there is none
abbrev pub send_of : ℕ → Option Ask → NextAction
send_of device None = Wait
send_of device (Some what) = Send device what

-- the next request to the device of a seat, where there is one
abbrev pub send_seat : Option Verdict → ℕ → Option Seat → NextAction
send_seat decided place None = Wait
send_seat decided place (Some seat) = send_of (place + 1) (next_ask decided seat.stage)

-- the next request goes to the device at a place
abbrev pub send_at : Option Verdict → List Seat → Option ℕ → NextAction
send_at decided seats None = Wait
send_at decided seats (Some place) = send_seat decided place (slice_get seats place)

-- the place of a choice
abbrev pub place_of : Option Choice → Option ℕ
place_of None = None
place_of (Some choice) = Some choice.place

-- without trouble: an awaited reply is waited for; all acknowledged gives Commit; else the next request goes to the least device
-- that hasn't acknowledged
abbrev pub calm_action : List Seat → NextAction
calm_action seats =
    if list_any awaits seats then Wait
    else (if not (list_any wants_acknowledgement seats) then Decide verdict.Commit
    else send_at None seats (position wants_acknowledgement seats))

-- undecided: trouble gives Abort with its cause, and lost memory is the trouble Forgotten
abbrev pub undecided_action : Option AbortCause → List Seat → NextAction
undecided_action (Some why) seats = Decide (verdict.Abort why)
undecided_action None seats = calm_action seats

-- the devices from this one on that have kept the change set, as a mask: bit d - 1 stands for device d
abbrev pub kept_from : ℕ → List Seat → ℕ
kept_from place [] = 0
kept_from place (seat ∷ seats) =
    if seat.is_member && has_kept seat.stage then bit_or (kept_from (place + 1) seats) (1 * 2 ^ place % 2 ^ 32) else kept_from (place + 1) seats

-- decided: all settled is the end; else a device that may act goes on
abbrev pub decided_action : Verdict → List Seat → NextAction
decided_action decided seats =
    if not (list_any wants_settling seats) then Finish (record { 0 = kept_from 0 seats })
    else send_at (Some decided) seats (place_of (fewest_from (Some decided) 0 seats))

-- what comes next, by whether the change set is decided
abbrev pub action_by : Option Verdict → Option AbortCause → List Seat → NextAction
action_by None trouble seats = undecided_action trouble seats
action_by (Some decided) trouble seats = decided_action decided seats

-- what the manager does next for the change set
abbrev pub next_action : CourseState → NextAction
next_action course = action_by course.verdict course.trouble course.seats

-- a device of the change set has acknowledged and awaits no reply
abbrev pub may_renew_seat : Option Seat → Bool
may_renew_seat None = false
may_renew_seat (Some seat) = seat.is_member && (is_none seat.awaited && is_acknowledged seat.stage)

-- the timer of a device's pending commit may be set anew: undecided and without trouble, the device has acknowledged and awaits
-- no reply (RFC 6241 section 8.4.1)
abbrev pub may_renew : CourseState → ℕ → Bool
may_renew course device = is_none course.verdict && (is_none course.trouble && may_renew_seat (slice_get course.seats (device - 1)))
