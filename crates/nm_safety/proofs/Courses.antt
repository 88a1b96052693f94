-- Steps for one device leave the change set that a course is of, and its verdict; and those that go out leave it in step, also where
-- a device has no edit.
use Rattle.std.proofs.Common.{◌≡◌, ◌∙◌, ℕ, ◌-◌, ◌+◌, ◌≤◌, Bool, true, false, ◌&&◌, List, Option, Some, None, IfSome, is_none, slice_get, refl, ap}
use Rattle.nm_base.specs.Count.{raised}
use Rattle.nm_proto.specs.declared.ask.Ask.{Ask}
use Rattle.nm_proto.specs.declared.ask.Ask.TheVariants as ask
use Rattle.nm_proto.specs.declared.message.Request.{Request}
use Rattle.nm_proto.specs.declared.message.Reply.{Reply}
use Rattle.nm_proto.specs.declared.journal.Entry.{Entry}
use Rattle.nm_proto.specs.declared.plan.ChangePlan.{ChangePlan}
use Rattle.nm_decider_stage.specs.declared.stage.Stage.{Stage}
use Rattle.nm_decider_stage.specs.declared.stage.Stage.TheVariants.{Live, Refused, Failed, NeedMark, Resync, Leaving, Settled}
use Rattle.nm_decider_stage.specs.Stages.{next_ask}
use Rattle.nm_decider.specs.declared.course.NextAction.TheVariants.{Send}
use Rattle.nm_decider.specs.declared.seat.Seat.{Seat}
use Rattle.nm_decider.specs.Course as course
use Rattle.nm_decider.specs.Course.{CourseState, next_action, may_renew_seat}
use Rattle.nm_decider.specs.Rightly.{IsAsked}
use Rattle.nm_decider.proofs.Actions.{asked}
use Rattle.nm_wire.specs.declared.link.Exchange.{Exchange}
use Rattle.nm_wire.specs.Asks.{ask_of}
use Rattle.nm_wire.specs.Wire.{WireState, due, handled}
use Rattle.nm_resync.specs.Resync.{ResyncState, settled_in}
use Rattle.nm_manager.specs.Requests.{request_for}
use Rattle.nm_manager.specs.Slot.{SideState, SlotState, PairStep, SlotStep, with_pair, asked_in_fact, opens, may_go, sends_if, sends_request, sends, renews_if, renews, settled_by, learns, resync_goes_on, receives_due, receives, awaits_resync, breaks_current, breaks, on_side, sends_pair, renews_pair, receives_pair, breaks_pair}
use Rattle.nm_manager.proofs.Kept.{asks_fit}
use Rattle.nm_manager.proofs.Reach.{side_reached}
use Rattle.nm_safety.specs.Step.{GoWith, GoesWith, IsSeated, IsInStep}
use Rattle.nm_safety.proofs.Tables.{next_awaited, RenewsNow, renews_now}
use Rattle.nm_safety.proofs.Pairs.{next_goes, goes_now}
use Rattle.nm_safety.proofs.PairSteps.{pair_at, unmoved, out_by}

-- ---- the change set and the verdict

pub record IsSameSet (before after : CourseState) : Type 0 where
  pub change : after.change ≡ before.change
  pub verdict : after.verdict ≡ before.verdict

same_set : (c : CourseState) → IsSameSet c c
same_set c = record { change = refl; verdict = refl }

-- a step for a device, where it has a side
on_same : (step : CourseState → SideState → PairStep) (slot : SlotState) (device : ℕ) → ((side : SideState) → IsSameSet slot.course (step slot.course side).course)
    → IsSameSet slot.course (on_side step slot device (slice_get slot.sides (device - 1))).slot.course
on_same step slot device same =
    side_reached step slot device (λ (done : SlotStep). IsSameSet slot.course done.slot.course) (same_set slot.course) (λ side there. same side)

module _ (plan : ChangePlan) (entries : List Entry) (slot : SlotState) (device : ℕ) where
  sent_at_same : (seat : Option Seat) → IsSameSet slot.course (course.with_sent_at slot.course device seat)
  sent_at_same None = same_set slot.course
  sent_at_same (Some seat) = record { change = refl; verdict = refl }

  renewed_at_same : (seat : Option Seat) → IsSameSet slot.course (course.with_renewed_at slot.course device seat)
  renewed_at_same None = same_set slot.course
  renewed_at_same (Some seat) = record { change = refl; verdict = refl }

  if_same : (now : CourseState) (new : Bool) (side : SideState) (request : Request) → IsSameSet slot.course now → (b : Bool) → IsSameSet slot.course (sends_if b new device slot.course now side request).course
  if_same now new side request same true = same
  if_same now new side request same false = same_set slot.course

  request_same : (now : CourseState) (new : Bool) (side : SideState) → IsSameSet slot.course now → (found : Option Request) → IsSameSet slot.course (sends_request new device slot.course now side found).course
  request_same now new side same None = same_set slot.course
  request_same now new side same (Some request) = if_same now new side request same (may_go new side.wire)

  pub sent_same : (what : Ask) → IsSameSet slot.course (sends plan entries slot device what).slot.course
  sent_same what =
      on_same (sends_pair plan entries device what) slot device
      (λ side.
      request_same (course.with_sent slot.course device) (opens (asked_in_fact side.resync what)) side (sent_at_same (slice_get slot.course.seats (device - 1)))
      (request_for plan entries slot.course.change device (asked_in_fact side.resync what)))

  renews_same : (side : SideState) (b : Bool) → IsSameSet slot.course (renews_if b plan entries slot.course side device).course
  renews_same side false = same_set slot.course
  renews_same side true =
      request_same (course.with_renewed slot.course device) false side (renewed_at_same (slice_get slot.course.seats (device - 1))) (request_for plan entries slot.course.change device ask.Renew)

  pub renewed_same : IsSameSet slot.course (renews plan entries slot device).slot.course
  renewed_same = on_same (renews_pair plan entries device) slot device (λ side. renews_same side (course.may_renew slot.course device))

module _ (slot : SlotState) (device : ℕ) where
  answer_same : (reply : Reply) (seat : Seat) (awaited : Option Ask) → IsSameSet slot.course (course.with_answer slot.course device reply seat awaited)
  answer_same reply seat None = same_set slot.course
  answer_same reply seat (Some what) = record { change = refl; verdict = refl }

  reply_at_same : (reply : Reply) (seat : Option Seat) → IsSameSet slot.course (course.with_reply_at slot.course device reply seat)
  reply_at_same reply None = same_set slot.course
  reply_at_same reply (Some seat) = answer_same reply seat seat.awaited

  found_same : (now : CourseState) (kept : Bool) (seat : Seat) → IsSameSet slot.course now → (stage : Stage) → IsSameSet slot.course (course.with_found now device kept seat stage)
  found_same now kept seat same Resync = record { change = same.change; verdict = same.verdict }
  found_same now kept seat same (Live done) = same
  found_same now kept seat same Refused = same
  found_same now kept seat same Failed = same
  found_same now kept seat same NeedMark = same
  found_same now kept seat same (Leaving other) = same
  found_same now kept seat same (Settled other) = same

  settled_at_same : (now : CourseState) (kept : Bool) → IsSameSet slot.course now → (seat : Option Seat) → IsSameSet slot.course (course.with_settled_at now device kept seat)
  settled_at_same now kept same None = same
  settled_at_same now kept same (Some seat) = found_same now kept seat same seat.stage

  settled_same : (now : CourseState) → IsSameSet slot.course now → (known : Option Bool) → IsSameSet slot.course (settled_by now device known)
  settled_same now same None = same
  settled_same now same (Some kept) = settled_at_same now kept same (slice_get now.seats (device - 1))

  learns_same : (resyncs : Bool) (reply : Reply) (next : ResyncState) → IsSameSet slot.course (learns resyncs slot.course device reply next)
  learns_same false reply next = reply_at_same reply (slice_get slot.course.seats (device - 1))
  learns_same true reply next = settled_same (course.with_reply slot.course device reply) (reply_at_same reply (slice_get slot.course.seats (device - 1))) (settled_in next.stage)

  due_same : (resyncs : Bool) (side : SideState) (links : WireState) (told : Option Exchange) → IsSameSet slot.course (receives_due resyncs slot.course side device links told).course
  due_same resyncs side links None = same_set slot.course
  due_same resyncs side links (Some exchange) = learns_same resyncs exchange.reply (resync_goes_on resyncs side.resync exchange.reply)

  pub received_same : (link number : ℕ) → IsSameSet slot.course (receives slot device link number).slot.course
  received_same link number =
      on_same (receives_pair device link number) slot device
      (λ side. due_same (awaits_resync (slice_get slot.course.seats (device - 1))) side (handled side.wire link number) (due side.wire link number))

  break_at_same : (seat : Option Seat) → IsSameSet slot.course (course.with_break_at slot.course device seat)
  break_at_same None = same_set slot.course
  break_at_same (Some seat) = record { change = refl; verdict = refl }

  current_same : (side : SideState) (current : Option ℕ) → IsSameSet slot.course (breaks_current slot.course side device current).course
  current_same side None = same_set slot.course
  current_same side (Some number) = break_at_same (slice_get slot.course.seats (device - 1))

  pub broken_same : IsSameSet slot.course (breaks slot device).slot.course
  broken_same = on_same (breaks_pair device) slot device (λ side. current_same side side.wire.current)

-- ---- in step

module _ (change members : ℕ) (entries : List Entry) (slot : SlotState) (in_step : IsInStep change members entries slot) (plan : ChangePlan) where
  sent_by : (device : ℕ) (what : Ask) (a : IsAsked slot.course device what) (side : SideState) → slice_get slot.sides (device - 1) ≡ Some side
      → IsSeated members (device - 1 + 1) a.seat × GoesWith slot.course.verdict a.seat side → (found : Option Request) → IfSome found (λ request. ask_of request ≡ asked_in_fact side.resync what)
      → IsInStep change members entries (with_pair slot device (sends_request (opens (asked_in_fact side.resync what)) device slot.course (course.with_sent slot.course device) side found)).slot
  sent_by device what a side there pair None asks = unmoved change members entries slot in_step (device - 1) side there
  sent_by device what a side there pair (Some request) asks =
      (out_by change members entries slot in_step device a.numbered a.seat side a.here there (course.with_sent slot.course device) what (asked_in_fact side.resync what)
      (opens (asked_in_fact side.resync what)) (raised a.seat.sent)
      (ap (course.with_sent_at slot.course device) a.here ∙ ap (λ o. course.with_seat slot.course device (record a.seat { awaited = o; sent = raised a.seat.sent })) a.next)
      refl a.member (next_awaited (next_ask slot.course.verdict a.seat.stage) a.seat.stage what a.next) (next_goes slot.course.verdict a.seat side pair.1 what a.quiet a.next)
      (Some request) refl asks).stays

  sent_on_step : (device : ℕ) (what : Ask) (a : IsAsked slot.course device what) (found : Option SideState) → slice_get slot.sides (device - 1) ≡ found
      → GoWith members slot.course.verdict (device - 1 + 1) (Some a.seat) found → IsInStep change members entries (on_side (sends_pair plan entries device what) slot device found).slot
  sent_on_step device what a None there pair = absurd pair
  sent_on_step device what a (Some side) there pair =
      sent_by device what a side there pair (request_for plan entries slot.course.change device (asked_in_fact side.resync what)) (asks_fit plan entries slot.course.change device (asked_in_fact side.resync what))

  pub sent_in_step : (device : ℕ) (what : Ask) → next_action slot.course ≡ Send device what → IsInStep change members entries (sends plan entries slot device what).slot
  sent_in_step device what h =
      let a : IsAsked slot.course device what = asked slot.course device what h in
      sent_on_step device what a (slice_get slot.sides (device - 1)) refl (pair_at change members entries slot in_step (device - 1) (Some a.seat) (slice_get slot.sides (device - 1)) a.here refl)

  renewed_by : (device : ℕ) → 1 ≤ device → (seat : Option Seat) (side : SideState) → slice_get slot.course.seats (device - 1) ≡ seat → slice_get slot.sides (device - 1) ≡ Some side → (b : Bool)
      → (is_none slot.course.verdict && (is_none slot.course.trouble && may_renew_seat seat)) ≡ b → IsInStep change members entries (with_pair slot device (renews_if b plan entries slot.course side device)).slot
  renewed_by device numbered seat side here there false may = unmoved change members entries slot in_step (device - 1) side there
  renewed_by device numbered None side here there true may = absurd (pair_at change members entries slot in_step (device - 1) None (Some side) here there)
  renewed_by device numbered (Some seat) side here there true may =
      let all : RenewsNow slot.course.verdict seat = renews_now slot.course.verdict (is_none slot.course.trouble) seat may in
      let pair : IsSeated members (device - 1 + 1) seat × GoesWith slot.course.verdict seat side = pair_at change members entries slot in_step (device - 1) (Some seat) (Some side) here there in
      (out_by change members entries slot in_step device numbered seat side here there (course.with_renewed slot.course device) ask.Renew ask.Renew false (raised seat.sent)
      (ap (course.with_renewed_at slot.course device) here) refl all.member all.may (goes_now slot.course.verdict seat side pair.1 all.quiet all.linked)
      (request_for plan entries slot.course.change device ask.Renew) refl (asks_fit plan entries slot.course.change device ask.Renew)).stays

  pub renewed_in_step : (device : ℕ) → 1 ≤ device → IsInStep change members entries (renews plan entries slot device).slot
  renewed_in_step device numbered =
      side_reached (renews_pair plan entries device) slot device (λ (done : SlotStep). IsInStep change members entries done.slot) in_step
      (λ side there. renewed_by device numbered (slice_get slot.course.seats (device - 1)) side refl there (course.may_renew slot.course device) refl)
