-- What the course of a change set decides with: the cause that was noted. And what goes out decides nothing.
use Rattle.std.proofs.Common.{◌≡◌, ◌∙◌, ℕ, ◌+◌, ◌-◌, Bool, true, false, not, List, Option, Some, None, position, slice_get, refl, sym, ap, if◌then◌else◌}
use Rattle.std.specs.List.{list_any}
use Rattle.std.proofs.lemmas.Bool.{cond_both}
use Rattle.std.proofs.lemmas.Option.{none-some}
use Rattle.nm_proto.specs.declared.ask.Ask.{Ask}
use Rattle.nm_proto.specs.declared.message.Request.{Request}
use Rattle.nm_proto.specs.declared.journal.AbortCause.{AbortCause}
use Rattle.nm_proto.specs.declared.journal.Entry.{Entry}
use Rattle.nm_proto.specs.declared.journal.Verdict.{Verdict}
use Rattle.nm_proto.specs.declared.journal.Verdict.TheVariants as verdict
use Rattle.nm_proto.specs.declared.plan.ChangePlan.{ChangePlan}
use Rattle.nm_decider_stage.specs.Stages.{next_ask}
use Rattle.nm_decider.specs.declared.course.NextAction.{NextAction}
use Rattle.nm_decider.specs.declared.course.NextAction.TheVariants as next
use Rattle.nm_decider.specs.declared.seat.Seat.{Seat}
use Rattle.nm_decider.specs.Course as course
use Rattle.nm_decider.specs.Course.{CourseState, next_action, action_by, calm_action, decided_action, send_at, send_seat, send_of, awaits}
use Rattle.nm_decider.specs.Course.{wants_acknowledgement, wants_settling, place_of, fewest_from, kept_from}
use Rattle.nm_manager.specs.declared.action.Action.{Action}
use Rattle.nm_manager.specs.declared.action.Action.TheVariants as action
use Rattle.nm_manager.specs.Requests.{request_for}
use Rattle.nm_manager.specs.Slot.{SideState, SlotState, asked_in_fact, opens, may_go, sends_if, sends_request, sends_pair, on_side}
use Rattle.nm_world.specs.World.{happened_of}
use Rattle.nm_outcome_laws.specs.Causes.{verdict_told}

-- ---- an abort is decided with the cause that was noted

abbrev aborted_with : NextAction → Option AbortCause
aborted_with next.Wait = None
aborted_with (next.Send device what) = None
aborted_with (next.Decide verdict.Commit) = None
aborted_with (next.Decide (verdict.Abort why)) = Some why
aborted_with (next.Finish kept) = None

abbrev AbortsNone : NextAction → Type 0
AbortsNone what = aborted_with what ≡ None

send_none : (device : ℕ) (what : Option Ask) → AbortsNone (send_of device what)
send_none device None = refl
send_none device (Some what) = refl

seat_none : (v : Option Verdict) (place : ℕ) (seat : Option Seat) → AbortsNone (send_seat v place seat)
seat_none v place None = refl
seat_none v place (Some seat) = send_none (place + 1) (next_ask v seat.stage)

at_none : (v : Option Verdict) (seats : List Seat) (place : Option ℕ) → AbortsNone (send_at v seats place)
at_none v seats None = refl
at_none v seats (Some place) = seat_none v place (slice_get seats place)

-- the next request goes to the first that hasn't acknowledged
abbrev goes_out : List Seat → NextAction
goes_out seats = send_at None seats (position wants_acknowledgement seats)

calm_none : (seats : List Seat) → AbortsNone (calm_action seats)
calm_none seats =
    cond_both (list_any awaits seats) next.Wait
    (if not (list_any wants_acknowledgement seats) then next.Decide verdict.Commit else goes_out seats) AbortsNone (λ _. refl)
    (λ _.
    cond_both (not (list_any wants_acknowledgement seats)) (next.Decide verdict.Commit) (goes_out seats) AbortsNone (λ _. refl)
    (λ _. at_none None seats (position wants_acknowledgement seats)))

decided_none : (v : Verdict) (seats : List Seat) → AbortsNone (decided_action v seats)
decided_none v seats =
    cond_both (not (list_any wants_settling seats)) (next.Finish (record { 0 = kept_from 0 seats }))
    (send_at (Some v) seats (place_of (fewest_from (Some v) 0 seats))) AbortsNone (λ _. refl)
    (λ _. at_none (Some v) seats (place_of (fewest_from (Some v) 0 seats)))

noted_by : (v : Option Verdict) (trouble : Option AbortCause) (seats : List Seat) (why : AbortCause)
    → action_by v trouble seats ≡ next.Decide (verdict.Abort why) → trouble ≡ Some why
noted_by None (Some noted) seats why e = ap aborted_with e
noted_by None None seats why e = absurd (none-some why (sym (calm_none seats) ∙ ap aborted_with e))
noted_by (Some v) trouble seats why e = absurd (none-some why (sym (decided_none v seats) ∙ ap aborted_with e))

pub abort_noted : (c : CourseState) (why : AbortCause) → next_action c ≡ next.Decide (verdict.Abort why) → c.trouble ≡ Some why
abort_noted c why e = noted_by c.verdict c.trouble c.seats why e

-- ---- what goes out decides nothing

abbrev verdict_by : Action → Option Verdict
verdict_by (action.Decided v) = Some v
verdict_by _ = None

pub told_none : (what : Action) → verdict_by what ≡ None → verdict_told (happened_of what) ≡ None
told_none action.Idle e = refl
told_none action.Started e = refl
told_none (action.Sent device link request) e = refl
told_none action.Handled e = refl
told_none action.Broken e = refl
told_none (action.Decided v) e = absurd (none-some v (sym e))
told_none action.Ended e = refl
told_none action.Forgot e = refl

if_none : (b new : Bool) (device : ℕ) (before now : CourseState) (side : SideState) (request : Request)
    → verdict_by (sends_if b new device before now side request).action ≡ None
if_none true new device before now side request = refl
if_none false new device before now side request = refl

request_none : (new : Bool) (device : ℕ) (before now : CourseState) (side : SideState) (found : Option Request)
    → verdict_by (sends_request new device before now side found).action ≡ None
request_none new device before now side None = refl
request_none new device before now side (Some request) = if_none (may_go new side.wire) new device before now side request

pub sends_none : (plan : ChangePlan) (entries : List Entry) (slot : SlotState) (device : ℕ) (what : Ask) (found : Option SideState)
    → verdict_by (on_side (sends_pair plan entries device what) slot device found).action ≡ None
sends_none plan entries slot device what None = refl
sends_none plan entries slot device what (Some side) =
    request_none (opens (asked_in_fact side.resync what)) device slot.course (course.with_sent slot.course device) side
    (request_for plan entries slot.course.change device (asked_in_fact side.resync what))
