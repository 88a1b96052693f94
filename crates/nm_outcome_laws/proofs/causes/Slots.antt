-- What was told on the links of a change set stays where the manager acts for it, and so does what was noted of it where nothing is.
use Rattle.std.proofs.Common.{◌≡◌, ℕ, zero, suc, ◌-◌, Bool, true, false, List, [], ◌∷◌, Option, Some, None, IfSome, map, slice_get, slice_set, refl}
use Rattle.nm_proto.specs.declared.ask.Ask.{Ask}
use Rattle.nm_proto.specs.declared.ask.Ask.TheVariants as ask
use Rattle.nm_proto.specs.declared.message.Request.{Request}
use Rattle.nm_proto.specs.declared.message.Reply.{Reply}
use Rattle.nm_proto.specs.declared.journal.AbortCause.{AbortCause}
use Rattle.nm_proto.specs.declared.journal.AbortCause.TheVariants as cause
use Rattle.nm_proto.specs.declared.journal.Entry.{Entry}
use Rattle.nm_proto.specs.declared.journal.Verdict.{Verdict}
use Rattle.nm_proto.specs.declared.plan.ChangePlan.{ChangePlan}
use Rattle.nm_proto.specs.Plan.{devices_in}
use Rattle.nm_recovery.specs.Recovery.{verdict_in}
use Rattle.nm_decider_stage.specs.declared.stage.Stage.{Stage}
use Rattle.nm_decider_stage.specs.declared.stage.Stage.TheVariants.{Live, Refused, Failed, NeedMark, Resync, Leaving, Settled}
use Rattle.nm_decider_stage.specs.Stages.{trouble_in}
use Rattle.nm_decider.specs.declared.seat.Seat.{Seat}
use Rattle.nm_decider.specs.Course as course
use Rattle.nm_decider.specs.Course.{CourseState, noted}
use Rattle.nm_resync.specs.Resync.{ResyncState, settled_in}
use Rattle.nm_wire.specs.declared.link.Exchange.{Exchange}
use Rattle.nm_wire.specs.Wire.{WireState, due, handled}
use Rattle.nm_manager.specs.Requests.{request_for}
use Rattle.nm_manager.specs.Slot.{SideState, SlotState, PairStep, with_pair, with_wire, asked_in_fact, opens, may_go, sends_if, sends_request, on_side, sends_pair, renews_pair, receives_pair}
use Rattle.nm_manager.specs.Slot.{sends, renews_if, renews, settled_by, learns, receives_due, receives}
use Rattle.nm_manager.specs.Slot.{awaits_resync, breaks_current, anew, is_commit, to_commit, decided, cut_off, lost_memory, wires_on, wire_of_side}
use Rattle.nm_manager.specs.Manager.{wire_of, course_after, start_anew}
use Rattle.nm_safety.proofs.Wires.{at_set, at_map}
use Rattle.nm_outcome_laws.proofs.causes.Wires.{SameTold, same_told, gone_as, handled_told, broken_told}

-- ---- links

abbrev SameSide : Option SideState → Option SideState → Type 0
SameSide before after = SameTold (wire_of_side before) (wire_of_side after)

same_side : (side : Option SideState) → SameSide side side
same_side side = same_told (wire_of_side side)

abbrev pub SameSlot : Option SlotState → Option SlotState → Type 0
SameSlot before after = (device : ℕ) → SameTold (wire_of device before) (wire_of device after)

pub same_slot : (slot : Option SlotState) → SameSlot slot slot
same_slot slot device = same_told (wire_of device slot)

-- the links of one device are others
side_set : (slot : SlotState) (now : CourseState) (d : ℕ) (side new : SideState) → slice_get slot.sides d ≡ Some side → SameTold side.wire new.wire
    → SameSlot (Some slot) (Some (record { course = now; sides = slice_set slot.sides d new }))
side_set slot now d side new there told device = at_set SameSide same_side slot.sides d (device - 1) side new there told

-- and so are those of all
sides_map : (slot : SlotState) (now : CourseState) (change : SideState → SideState) → ((side : SideState) → SameTold side.wire (change side).wire)
    → SameSlot (Some slot) (Some (record { course = now; sides = map change slot.sides }))
sides_map slot now change told device = at_map SameSide same_side change told slot.sides (device - 1)

module _ (device : ℕ) (before now : CourseState) (side : SideState) where
  if_told : (new : Bool) (request : Request) (b : Bool) → may_go new side.wire ≡ b
      → SameTold side.wire (sends_if b new device before now side request).side.wire
  if_told new request false e = same_told side.wire
  if_told new request true e = gone_as new side.wire request e

  request_told : (new : Bool) (found : Option Request) → SameTold side.wire (sends_request new device before now side found).side.wire
  request_told new None = same_told side.wire
  request_told new (Some request) = if_told new request (may_go new side.wire) refl

module _ (slot : SlotState) (device : ℕ) where
  abbrev d : ℕ
  d = device - 1

  pair_told : (step : PairStep) (side : SideState) → slice_get slot.sides d ≡ Some side → SameTold side.wire step.side.wire
      → SameSlot (Some slot) (Some (with_pair slot device step).slot)
  pair_told step side there told = side_set slot step.course d side step.side there told

  sent_by : (plan : ChangePlan) (entries : List Entry) (what : Ask) (found : Option SideState) → slice_get slot.sides d ≡ found
      → SameSlot (Some slot) (Some (on_side (sends_pair plan entries device what) slot device found).slot)
  sent_by plan entries what None there = same_slot (Some slot)
  sent_by plan entries what (Some side) there =
      pair_told
      (sends_request (opens (asked_in_fact side.resync what)) device slot.course (course.with_sent slot.course device) side
      (request_for plan entries slot.course.change device (asked_in_fact side.resync what)))
      side there
      (request_told device slot.course (course.with_sent slot.course device) side (opens (asked_in_fact side.resync what))
      (request_for plan entries slot.course.change device (asked_in_fact side.resync what)))

  pub sends_told : (plan : ChangePlan) (entries : List Entry) (what : Ask) → SameSlot (Some slot) (Some (sends plan entries slot device what).slot)
  sends_told plan entries what = sent_by plan entries what (slice_get slot.sides d) refl

  renewed_if : (plan : ChangePlan) (entries : List Entry) (side : SideState) → slice_get slot.sides d ≡ Some side → (b : Bool)
      → SameSlot (Some slot) (Some (with_pair slot device (renews_if b plan entries slot.course side device)).slot)
  renewed_if plan entries side there false = pair_told (renews_if false plan entries slot.course side device) side there (same_told side.wire)
  renewed_if plan entries side there true =
      pair_told (renews_if true plan entries slot.course side device) side there
      (request_told device slot.course (course.with_renewed slot.course device) side false (request_for plan entries slot.course.change device ask.Renew))

  renewed_by : (plan : ChangePlan) (entries : List Entry) (found : Option SideState) → slice_get slot.sides d ≡ found
      → SameSlot (Some slot) (Some (on_side (renews_pair plan entries device) slot device found).slot)
  renewed_by plan entries None there = same_slot (Some slot)
  renewed_by plan entries (Some side) there = renewed_if plan entries side there (course.may_renew slot.course device)

  pub renews_told : (plan : ChangePlan) (entries : List Entry) → SameSlot (Some slot) (Some (renews plan entries slot device).slot)
  renews_told plan entries = renewed_by plan entries (slice_get slot.sides d) refl

  due_told_by : (link number : ℕ) (side : SideState) → slice_get slot.sides d ≡ Some side → (resyncs : Bool) (told : Option Exchange)
      → SameSlot (Some slot) (Some (with_pair slot device (receives_due resyncs slot.course side device (handled side.wire link number) told)).slot)
  due_told_by link number side there resyncs None =
      pair_told (receives_due resyncs slot.course side device (handled side.wire link number) None) side there (same_told side.wire)
  due_told_by link number side there resyncs (Some exchange) =
      pair_told (receives_due resyncs slot.course side device (handled side.wire link number) (Some exchange)) side there (handled_told side.wire link number)

  received_by : (link number : ℕ) (found : Option SideState) → slice_get slot.sides d ≡ found
      → SameSlot (Some slot) (Some (on_side (receives_pair device link number) slot device found).slot)
  received_by link number None there = same_slot (Some slot)
  received_by link number (Some side) there = due_told_by link number side there (awaits_resync (slice_get slot.course.seats d)) (due side.wire link number)

  pub receives_told : (link number : ℕ) → SameSlot (Some slot) (Some (receives slot device link number).slot)
  receives_told link number = received_by link number (slice_get slot.sides d) refl

  pub current_told : (side : SideState) → slice_get slot.sides d ≡ Some side → (current : Option ℕ)
      → SameSlot (Some slot) (Some (with_pair slot device (breaks_current slot.course side device current)).slot)
  current_told side there None = pair_told (breaks_current slot.course side device None) side there (same_told side.wire)
  current_told side there (Some number) = pair_told (breaks_current slot.course side device (Some number)) side there (broken_told side.wire)

  pub wires_told : (happens : WireState → WireState) → ((wire : WireState) → SameTold wire (happens wire)) → (found : Option SideState)
      → slice_get slot.sides d ≡ found
      → SameSlot (Some slot) (Some (wires_on happens slot device found))
  wires_told happens told None there = same_slot (Some slot)
  wires_told happens told (Some side) there = side_set slot slot.course d side (with_wire side (happens side.wire)) there (told side.wire)

pub decided_told : (slot : SlotState) (v : Verdict) → SameSlot (Some slot) (Some (decided slot v))
decided_told slot v = sides_map slot (course.with_verdict slot.course v) (anew (is_commit v)) (λ side. same_told side.wire)

pub lost_told_all : (slot : SlotState) (devices : ℕ) (found : Option Verdict) → SameSlot (Some slot) (Some (lost_memory slot devices found))
lost_told_all slot devices found =
    sides_map slot (course.recovered_course slot.course.change devices found) (cut_off (to_commit found)) (λ side. broken_told side.wire)

pub anew_told : (entries : List Entry) (change : ℕ) (plans : List ChangePlan) (slots : List SlotState) (place : ℕ)
    → SameSlot (slice_get slots place) (slice_get (start_anew entries change plans slots) place)
anew_told entries change [] slots place = same_slot (slice_get slots place)
anew_told entries change (plan ∷ plans) [] place = same_slot (slice_get [] place)
anew_told entries change (plan ∷ plans) (slot ∷ slots) zero =
    sides_map slot (course_after entries change (devices_in plan.edits)) (cut_off (to_commit (verdict_in change entries))) (λ side. broken_told side.wire)
anew_told entries change (plan ∷ plans) (slot ∷ slots) (suc place) = anew_told entries (suc change) plans slots place

-- ---- what was noted

module _ (slot : SlotState) (device : ℕ) where
  sent_at_same : (seat : Option Seat) → (course.with_sent_at slot.course device seat).trouble ≡ slot.course.trouble
  sent_at_same None = refl
  sent_at_same (Some seat) = refl

  renewed_at_same : (seat : Option Seat) → (course.with_renewed_at slot.course device seat).trouble ≡ slot.course.trouble
  renewed_at_same None = refl
  renewed_at_same (Some seat) = refl

  if_same : (now : CourseState) (side : SideState) (new : Bool) (request : Request) → now.trouble ≡ slot.course.trouble → (b : Bool)
      → (sends_if b new device slot.course now side request).course.trouble ≡ slot.course.trouble
  if_same now side new request same true = same
  if_same now side new request same false = refl

  request_same : (now : CourseState) (side : SideState) (new : Bool) → now.trouble ≡ slot.course.trouble → (found : Option Request)
      → (sends_request new device slot.course now side found).course.trouble ≡ slot.course.trouble
  request_same now side new same None = refl
  request_same now side new same (Some request) = if_same now side new request same (may_go new side.wire)

  sent_on_same : (plan : ChangePlan) (entries : List Entry) (what : Ask) (found : Option SideState)
      → (on_side (sends_pair plan entries device what) slot device found).slot.course.trouble ≡ slot.course.trouble
  sent_on_same plan entries what None = refl
  sent_on_same plan entries what (Some side) =
      request_same (course.with_sent slot.course device) side (opens (asked_in_fact side.resync what)) (sent_at_same (slice_get slot.course.seats (device - 1)))
      (request_for plan entries slot.course.change device (asked_in_fact side.resync what))

  pub sends_same : (plan : ChangePlan) (entries : List Entry) (what : Ask) → (sends plan entries slot device what).slot.course.trouble ≡ slot.course.trouble
  sends_same plan entries what = sent_on_same plan entries what (slice_get slot.sides (device - 1))

  renewed_if_same : (plan : ChangePlan) (entries : List Entry) (side : SideState) (b : Bool)
      → (renews_if b plan entries slot.course side device).course.trouble ≡ slot.course.trouble
  renewed_if_same plan entries side false = refl
  renewed_if_same plan entries side true =
      request_same (course.with_renewed slot.course device) side false (renewed_at_same (slice_get slot.course.seats (device - 1)))
      (request_for plan entries slot.course.change device ask.Renew)

  renewed_on_same : (plan : ChangePlan) (entries : List Entry) (found : Option SideState)
      → (on_side (renews_pair plan entries device) slot device found).slot.course.trouble ≡ slot.course.trouble
  renewed_on_same plan entries None = refl
  renewed_on_same plan entries (Some side) = renewed_if_same plan entries side (course.may_renew slot.course device)

  pub renews_same : (plan : ChangePlan) (entries : List Entry) → (renews plan entries slot device).slot.course.trouble ≡ slot.course.trouble
  renews_same plan entries = renewed_on_same plan entries (slice_get slot.sides (device - 1))

  pub wires_same : (happens : WireState → WireState) (found : Option SideState) → (wires_on happens slot device found).course.trouble ≡ slot.course.trouble
  wires_same happens None = refl
  wires_same happens (Some side) = refl

-- ---- what is noted now

module _ (Q : AbortCause → Type 0) where
  noted_by : (verdict : Option Verdict) (trouble later : Option AbortCause) → IfSome trouble Q → (verdict ≡ None → IfSome later Q)
      → IfSome (noted verdict trouble later) Q
  noted_by verdict (Some first) later old new = old
  noted_by None None later old new = new refl
  noted_by (Some verdict) None later old new = tt

  module _ (slot : SlotState) (device : ℕ) (old : IfSome slot.course.trouble Q) where
    break_at : (seat : Option Seat) → (slot.course.verdict ≡ None → Q (cause.Broken device)) → IfSome (course.with_break_at slot.course device seat).trouble Q
    break_at None new = old
    break_at (Some seat) new = noted_by slot.course.verdict slot.course.trouble (Some (cause.Broken device)) old new

    pub broken_noted : (side : SideState) (number : ℕ) → (slot.course.verdict ≡ None → Q (cause.Broken device))
        → IfSome (breaks_current slot.course side device (Some number)).course.trouble Q
    broken_noted side number new = break_at (slice_get slot.course.seats (device - 1)) new

    module _ (reply : Reply)
        (new : (seat : Seat) (what : Ask) → slice_get slot.course.seats (device - 1) ≡ Some seat → seat.awaited ≡ Some what → IfSome
        (trouble_in device what reply) Q) where
      answer_noted : (seat : Seat) → slice_get slot.course.seats (device - 1) ≡ Some seat → (awaited : Option Ask) → seat.awaited ≡ awaited
          → IfSome (course.with_answer slot.course device reply seat awaited).trouble Q
      answer_noted seat here None e = old
      answer_noted seat here (Some what) e = noted_by slot.course.verdict slot.course.trouble (trouble_in device what reply) old (λ _. new seat what here e)

      reply_at_noted : (seat : Option Seat) → slice_get slot.course.seats (device - 1) ≡ seat
          → IfSome (course.with_reply_at slot.course device reply seat).trouble Q
      reply_at_noted None here = old
      reply_at_noted (Some seat) here = answer_noted seat here seat.awaited refl

      found_noted : (now : CourseState) (kept : Bool) (seat : Seat) → IfSome now.trouble Q → (stage : Stage)
          → IfSome (course.with_found now device kept seat stage).trouble Q
      found_noted now kept seat held Resync = held
      found_noted now kept seat held (Live done) = held
      found_noted now kept seat held Refused = held
      found_noted now kept seat held Failed = held
      found_noted now kept seat held NeedMark = held
      found_noted now kept seat held (Leaving other) = held
      found_noted now kept seat held (Settled other) = held

      settled_at_noted : (now : CourseState) (kept : Bool) → IfSome now.trouble Q → (seat : Option Seat)
          → IfSome (course.with_settled_at now device kept seat).trouble Q
      settled_at_noted now kept held None = held
      settled_at_noted now kept held (Some seat) = found_noted now kept seat held seat.stage

      settled_noted : (now : CourseState) → IfSome now.trouble Q → (known : Option Bool) → IfSome (settled_by now device known).trouble Q
      settled_noted now held None = held
      settled_noted now held (Some kept) = settled_at_noted now kept held (slice_get now.seats (device - 1))

      pub learnt_noted : (resyncs : Bool) (next : ResyncState) → IfSome (learns resyncs slot.course device reply next).trouble Q
      learnt_noted false next = reply_at_noted (slice_get slot.course.seats (device - 1)) refl
      learnt_noted true next =
          settled_noted (course.with_reply slot.course device reply) (reply_at_noted (slice_get slot.course.seats (device - 1)) refl) (settled_in next.stage)
