-- Each event of a change set keeps its course and its links in step.
use Rattle.std.proofs.Common.{◌≡◌, ◌∙◌, ℕ, ◌+◌, ◌-◌, ◌≤◌, Bool, true, false, not, ◌&&◌, nat_lt, cond, List, [], ◌∷◌, ◌++◌, length, map, replicate, slice_get, slice_set, Option, Some, None, IfSome, is_some, is_none, option_map, option_and_then, if◌then◌else◌, refl, sym, ap, subst, arith}
use Rattle.std.specs.List.{list_any}
use Rattle.std.proofs.lemmas.Bool.Decides.{nat_tests}
use Rattle.std.proofs.lemmas.Option.{slice_get-map}
use Rattle.nm_base.specs.Count.{raised}
use Rattle.nm_base.specs.Mask.{mask_contains}
use Rattle.nm_proto.specs.declared.ask.Ask.{Ask}
use Rattle.nm_proto.specs.declared.ask.Ask.TheVariants as ask
use Rattle.nm_proto.specs.declared.message.Request.{Request}
use Rattle.nm_proto.specs.declared.message.Reply.{Reply}
use Rattle.nm_proto.specs.declared.journal.AbortCause.{AbortCause}
use Rattle.nm_proto.specs.declared.journal.AbortCause.TheVariants as cause
use Rattle.nm_proto.specs.declared.journal.Verdict.{Verdict}
use Rattle.nm_proto.specs.declared.journal.Verdict.TheVariants as verdict
use Rattle.nm_proto.specs.declared.journal.Entry.{Entry}
use Rattle.nm_proto.specs.declared.journal.Entry.TheVariants.{Decided}
use Rattle.nm_proto.specs.declared.plan.ChangePlan.{ChangePlan}
use Rattle.nm_journal.specs.Entries.{decides}
use Rattle.nm_journal.specs.Record.{is_device}
use Rattle.nm_recovery.specs.Recovery.{verdict_in, is_ended_in, is_started}
use Rattle.nm_decider_stage.specs.declared.stage.Stage.{Stage}
use Rattle.nm_decider_stage.specs.declared.stage.Stage.TheVariants.{Live, Resync, Settled}
use Rattle.nm_decider_stage.specs.Stages.{next_ask, learnt, trouble_in, broken_stage, fits, is_error, tag_in}
use Rattle.nm_decider.specs.declared.seat.Seat.{Seat}
use Rattle.nm_base.specs.Tag.{tag_number}
use Rattle.nm_decider.specs.Course as course
use Rattle.nm_decider.specs.declared.course.NextAction.TheVariants.{Send}
use Rattle.nm_decider.specs.Rightly.{IsAsked}
use Rattle.nm_decider.proofs.Actions.{asked}
use Rattle.nm_decider.specs.Course.{CourseState, seat_count, asked_next, decided_seat, noted, next_action, may_renew_seat, seat_of, seats_from}
use Rattle.nm_resync.specs.Resync.{settled_in, resync_learnt}
use Rattle.nm_resync.specs.Resync as resync
use Rattle.nm_wire.specs.declared.link.Exchange.{Exchange}
use Rattle.nm_wire.specs.Asks.{ask_of, same_ask}
use Rattle.nm_wire.specs.declared.link.Way.{Way}
use Rattle.nm_wire.specs.declared.link.Way.TheVariants.{Quiet, Asked, Told}
use Rattle.nm_wire.specs.Link.{LinkState, asked_on, outstanding, told_by, told_on, closed_link}
use Rattle.nm_wire.specs.Wire.{WireState, due, handled_at, outstanding_at, link_at, current_link, told, lost, restarted}
use Rattle.nm_manager.specs.Requests.{request_for, edit_for, edit_request}
use Rattle.nm_manager.specs.Slot.{SideState, SlotState, PairStep, SlotStep, with_pair, with_wire, asked_in_fact, opens, may_go, gone, sends_if, sends_request, sends, renews_if, renews, is_resync, awaits_resync, settled_by, hears, receives_due, receives, breaks_current, breaks, anew, cut_off, is_commit, to_commit, decided, lost_memory, fresh_slot, fresh_side, wires_on, on_side, sends_pair, renews_pair, receives_pair, breaks_pair}
use Rattle.nm_manager.specs.Manager.{starts_anew}
use Rattle.nm_manager.proofs.Kept.{asks_fit}
use Rattle.nm_manager.proofs.Reach.{side_reached}
use Rattle.nm_safety.specs.Step.{GoWith, GoesWith, IsSeated, IsInStep, IsPlanned, is_recorded, is_sent, may_await, has_number, is_fair, way_ask, way_told}
use Rattle.nm_safety.proofs.Places.{both_set, set_same, set_set, set_length, map_length, length_replicate, map_replicate, from_pairs, verdict_same, verdict_new, not_ended_before}
use Rattle.nm_safety.proofs.Tables.{next_awaited, next_known, RenewsNow, renews_now, found_stage}
use Rattle.nm_safety.proofs.Wires.{IsDue, due_is, set_there, current_changed, changed_current, current_restarted}
use Rattle.nm_safety.proofs.Pairs.{next_goes, goes_now, out_goes, told_ask, fair_number, at_resync, heard_goes, resynced_goes, decided_goes, broke_goes, lost_goes, new_goes, IsAsBefore, wire_goes}

-- ---- one device of it

module _ (change devices : ℕ) (entries : List Entry) (slot : SlotState) (in_step : IsInStep change devices entries slot) where
  -- one seat and its side have changed, and perhaps what is noted
  pub stepped : (now : CourseState) (place : ℕ) (seat new_seat : Seat) (side new_side : SideState) → slice_get slot.course.seats place ≡ Some seat → slice_get slot.sides place ≡ Some side
      → now.verdict ≡ slot.course.verdict → now.seats ≡ slice_set slot.course.seats place new_seat → IfSome now.trouble (λ why. is_recorded devices why ≡ true)
      → IsSeated devices (place + 1) new_seat → GoesWith slot.course.verdict new_seat new_side
      → IsInStep change devices entries (record { course = now; sides = slice_set slot.sides place new_side })
  stepped now place seat new_seat side new_side here there same seats trouble member goes = record {
    decided = λ e. same ∙ in_step.decided e;
    trouble = trouble;
    sides = set_length slot.sides place new_side ∙ in_step.sides;
    pairs = λ j.
        subst (λ v. GoWith devices v (j + 1) (slice_get now.seats j) (slice_get (slice_set slot.sides place new_side) j)) (sym same)
        (subst (λ s. GoWith devices slot.course.verdict (j + 1) (slice_get s j) (slice_get (slice_set slot.sides place new_side) j)) (sym seats)
        (both_set (λ k. GoWith devices slot.course.verdict (k + 1)) slot.course.seats slot.sides place seat new_seat side new_side here there in_step.pairs (member, goes) j));
  }

  -- what stands at a place
  pub pair_at : (place : ℕ) (seat : Option Seat) (side : Option SideState) → slice_get slot.course.seats place ≡ seat → slice_get slot.sides place ≡ side
      → GoWith devices slot.course.verdict (place + 1) seat side
  pair_at place seat side here there =
      subst (λ s. GoWith devices slot.course.verdict (place + 1) seat s) there (subst (λ s. GoWith devices slot.course.verdict (place + 1) s (slice_get slot.sides place)) here (in_step.pairs place))

  -- nothing has changed
  pub unmoved : (place : ℕ) (side : SideState) → slice_get slot.sides place ≡ Some side → IsInStep change devices entries (record { course = slot.course; sides = slice_set slot.sides place side })
  unmoved place side there = subst (λ sides. IsInStep change devices entries (record { course = slot.course; sides = sides })) (sym (set_same slot.sides place side there)) in_step

-- ---- a request goes out

some_map : {A B : Type 0} (f : A → B) (found : Option A) → is_some found ≡ true → is_some (option_map f found) ≡ true
some_map f None h = absurd (let e : false ≡ true = h in cc)
some_map f (Some x) h = refl

-- each request that is known is made, an edit of a device that has one too
known : (plan : ChangePlan) (entries : List Entry) (change device : ℕ) (what : Ask) → same_ask what ask.Resync ≡ false → is_some (edit_for plan device) ≡ true
    → is_some (request_for plan entries change device what) ≡ true
known plan entries change device ask.OpenSession k e = refl
known plan entries change device ask.LockRunning k e = refl
known plan entries change device ask.LockCandidate k e = refl
known plan entries change device ask.Edit k e = some_map (edit_request entries change) (edit_for plan device) e
known plan entries change device ask.Validate k e = refl
known plan entries change device ask.CommitConfirmed k e = refl
known plan entries change device ask.Renew k e = refl
known plan entries change device ask.Confirm k e = refl
known plan entries change device ask.Cancel k e = refl
known plan entries change device ask.HasMark k e = refl
known plan entries change device ask.Discard k e = refl
known plan entries change device ask.CloseSession k e = refl
known plan entries change device ask.Resync k e = absurd (let g : true ≡ false = k in cc)

some_is : {A : Type 0} (found : Option A) (x : A) → found ≡ Some x → (P : A → Type 0) → IfSome found P → P x
some_is None x e P h = absurd (let g : None ≡ Some x = e in cc)
some_is (Some y) x e P h = let g : y ≡ x = cc in subst P g h

-- what is kept of a change set after a step, and the step is no idle one
pub record GoesOut (change devices : ℕ) (entries : List Entry) (step : SlotStep) : Type 0 where
  pub stays : IsInStep change devices entries step.slot
  pub sent : is_sent step.action ≡ true

module _ (change devices : ℕ) (entries : List Entry) (slot : SlotState) (in_step : IsInStep change devices entries slot) (device : ℕ) (numbered : 1 ≤ device) (seat : Seat) (side : SideState)
    (here : slice_get slot.course.seats (device - 1) ≡ Some seat) (there : slice_get slot.sides (device - 1) ≡ Some side) where
  pair_now : IsSeated devices (device - 1 + 1) seat × GoesWith slot.course.verdict seat side
  pair_now = pair_at change devices entries slot in_step (device - 1) (Some seat) (Some side) here there

  module _ (now : CourseState) (what in_fact : Ask) (new : Bool) (count : ℕ) (same : now ≡ course.with_seat slot.course device (record seat { awaited = Some what; sent = count })) (is : in_fact ≡ asked_in_fact side.resync what)
      (member : seat.is_member ≡ true) (may : may_await slot.course.verdict seat.stage what ≡ true) (goes : may_go new side.wire ≡ true) where
    out_as : (request : Request) → ask_of request ≡ in_fact → (b : Bool) → b ≡ true
        → GoesOut change devices entries (with_pair slot device (sends_if b new device slot.course now side request))
    out_as request asks true t = record {
      stays =
          stepped change devices entries slot in_step now (device - 1) seat (record seat { awaited = Some what; sent = count }) side (with_wire side (gone new side.wire request)) here there
          (ap (λ c. c.verdict) same) (ap (λ c. c.seats) same) (subst (λ c. IfSome c.trouble (λ why. is_recorded devices why ≡ true)) (sym same) in_step.trouble)
          (record { numbered = pair_now.0.numbered; member = pair_now.0.member })
          (out_goes slot.course.verdict seat side pair_now.1 what new request count member goes may (asks ∙ is));
      sent = refl;
    }
    out_as request asks false t = absurd (let e : false ≡ true = t in cc)

    pub out_by : (found : Option Request) → is_some found ≡ true → IfSome found (λ request. ask_of request ≡ in_fact)
        → GoesOut change devices entries (with_pair slot device (sends_request new device slot.course now side found))
    out_by None k asks = absurd (let e : false ≡ true = k in cc)
    out_by (Some request) k asks = out_as request asks (may_go new side.wire) goes

-- the next request of a device goes out
module _ (change devices : ℕ) (entries : List Entry) (slot : SlotState) (in_step : IsInStep change devices entries slot) (plan : ChangePlan) (planned : IsPlanned plan devices) where
  edits : (device : ℕ) (seat : Seat) → 1 ≤ device → IsSeated devices (device - 1 + 1) seat → seat.is_member ≡ true → is_some (edit_for plan device) ≡ true
  edits device seat numbered seated member =
      subst (λ d. is_some (edit_for plan d) ≡ true) (omega (arith, numbered)) (planned (device - 1) (sym seated.member ∙ member))

  sent_on_side : (device : ℕ) (what : Ask) (a : IsAsked slot.course device what) (found : Option SideState) → slice_get slot.sides (device - 1) ≡ found
      → GoWith devices slot.course.verdict (device - 1 + 1) (Some a.seat) found → GoesOut change devices entries (on_side (sends_pair plan entries device what) slot device found)
  sent_on_side device what a None there pair = absurd pair
  sent_on_side device what a (Some side) there pair =
      out_by change devices entries slot in_step device a.numbered a.seat side a.here there (course.with_sent slot.course device) what (asked_in_fact side.resync what)
      (opens (asked_in_fact side.resync what)) (raised a.seat.sent)
      (ap (course.with_sent_at slot.course device) a.here ∙ ap (λ o. course.with_seat slot.course device (record a.seat { awaited = o; sent = raised a.seat.sent })) a.next)
      refl a.member (next_awaited (next_ask slot.course.verdict a.seat.stage) a.seat.stage what a.next) (next_goes slot.course.verdict a.seat side pair.1 what a.quiet a.next)
      (request_for plan entries slot.course.change device (asked_in_fact side.resync what))
      (known plan entries slot.course.change device (asked_in_fact side.resync what) (next_known slot.course.verdict a.seat.stage side.resync what a.next pair.1.resyncs)
      (edits device a.seat a.numbered pair.0 a.member))
      (asks_fit plan entries slot.course.change device (asked_in_fact side.resync what))

  pub sent_stays : (device : ℕ) (what : Ask) → next_action slot.course ≡ Send device what → GoesOut change devices entries (sends plan entries slot device what)
  sent_stays device what h =
      let a : IsAsked slot.course device what = asked slot.course device what h in
      sent_on_side device what a (slice_get slot.sides (device - 1)) refl (pair_at change devices entries slot in_step (device - 1) (Some a.seat) (slice_get slot.sides (device - 1)) a.here refl)

  -- ---- a renewal

  renewed_on_side : (device : ℕ) → 1 ≤ device → (seat : Option Seat) (found : Option SideState) → slice_get slot.course.seats (device - 1) ≡ seat → slice_get slot.sides (device - 1) ≡ found
      → GoWith devices slot.course.verdict (device - 1 + 1) seat found → (is_none slot.course.verdict && (is_none slot.course.trouble && may_renew_seat seat)) ≡ true
      → GoesOut change devices entries (on_side (renews_pair plan entries device) slot device found)
  renewed_on_side device numbered None found here there pair may = absurd (let e : (is_none slot.course.verdict && (is_none slot.course.trouble && false)) ≡ true = may in none (is_none slot.course.verdict) (is_none slot.course.trouble) e)
    where
      none : (a b : Bool) → (a && (b && false)) ≡ true → ⊥
      none a b h = grind (arith, nat_tests)
  renewed_on_side device numbered (Some seat) None here there pair may = absurd pair
  renewed_on_side device numbered (Some seat) (Some side) here there pair may =
      let can : course.may_renew slot.course device ≡ true = ap (λ o. is_none slot.course.verdict && (is_none slot.course.trouble && may_renew_seat o)) here ∙ may in
      let all : RenewsNow slot.course.verdict seat = renews_now slot.course.verdict (is_none slot.course.trouble) seat may in
      subst (λ b. GoesOut change devices entries (with_pair slot device (renews_if b plan entries slot.course side device))) (sym can)
      (out_by change devices entries slot in_step device numbered seat side here there (course.with_renewed slot.course device) ask.Renew ask.Renew false (raised seat.sent)
      (ap (course.with_renewed_at slot.course device) here) refl all.member all.may (goes_now slot.course.verdict seat side pair.1 all.quiet all.linked)
      (request_for plan entries slot.course.change device ask.Renew) refl (asks_fit plan entries slot.course.change device ask.Renew))

  pub renewed_stays : (device : ℕ) → 1 ≤ device → course.may_renew slot.course device ≡ true → GoesOut change devices entries (renews plan entries slot device)
  renewed_stays device numbered may =
      renewed_on_side device numbered (slice_get slot.course.seats (device - 1)) (slice_get slot.sides (device - 1)) refl refl
      (in_step.pairs (device - 1)) may

-- ---- causes

noted_recorded : (devices : ℕ) (verdict : Option Verdict) (first later : Option AbortCause) → IfSome first (λ why. is_recorded devices why ≡ true)
    → IfSome later (λ why. is_recorded devices why ≡ true) → IfSome (noted verdict first later) (λ why. is_recorded devices why ≡ true)
noted_recorded devices verdict (Some why) later f l = f
noted_recorded devices None None later f l = l
noted_recorded devices (Some verdict) None later f l = f

all_three : (a b c : Bool) → a ≡ true → b ≡ true → c ≡ true → (a && (b && c)) ≡ true
all_three a b c ha hb hc = grind (arith, nat_tests)

two : (a b : Bool) → a ≡ true → b ≡ true → (a && b) ≡ true
two a b ha hb = grind (arith, nat_tests)

broken_recorded : (devices device : ℕ) → mask_contains devices device ≡ true → is_device device ≡ true → is_recorded devices (cause.Broken device) ≡ true
broken_recorded devices device m d = two (mask_contains devices device) (is_device device) m d

refused_recorded : (devices device : ℕ) (b : Bool) (reply : Reply) → mask_contains devices device ≡ true → is_device device ≡ true → has_number reply ≡ true
    → IfSome (cond b None (Some (cause.Refused device (tag_in reply)))) (λ why. is_recorded devices why ≡ true)
refused_recorded devices device true reply m d n = search
refused_recorded devices device false reply m d n = all_three (mask_contains devices device) (is_device device) (nat_lt (tag_number (tag_in reply)) 9) m d (tag_numbered reply n)
  where
    tag_numbered : (reply : Reply) → has_number reply ≡ true → nat_lt (tag_number (tag_in reply)) 9 ≡ true
    tag_numbered reply n = grind (arith, nat_tests)

lapsed_recorded : (devices device : ℕ) (b : Bool) → mask_contains devices device ≡ true → is_device device ≡ true
    → IfSome (cond b (Some (cause.Lapsed device)) None) (λ why. is_recorded devices why ≡ true)
lapsed_recorded devices device true m d = two (mask_contains devices device) (is_device device) m d
lapsed_recorded devices device false m d = search

trouble_recorded : (devices device : ℕ) (what : Ask) (reply : Reply) → mask_contains devices device ≡ true → is_device device ≡ true → has_number reply ≡ true
    → IfSome (trouble_in device what reply) (λ why. is_recorded devices why ≡ true)
trouble_recorded devices device ask.OpenSession reply m d n = refused_recorded devices device (fits ask.OpenSession reply) reply m d n
trouble_recorded devices device ask.LockRunning reply m d n = refused_recorded devices device (fits ask.LockRunning reply) reply m d n
trouble_recorded devices device ask.LockCandidate reply m d n = refused_recorded devices device (fits ask.LockCandidate reply) reply m d n
trouble_recorded devices device ask.Edit reply m d n = refused_recorded devices device (fits ask.Edit reply) reply m d n
trouble_recorded devices device ask.Validate reply m d n = refused_recorded devices device (fits ask.Validate reply) reply m d n
trouble_recorded devices device ask.CommitConfirmed reply m d n = refused_recorded devices device (fits ask.CommitConfirmed reply) reply m d n
trouble_recorded devices device ask.Renew reply m d n = lapsed_recorded devices device (is_error reply) m d
trouble_recorded devices device ask.Confirm reply m d n = search
trouble_recorded devices device ask.Cancel reply m d n = search
trouble_recorded devices device ask.HasMark reply m d n = search
trouble_recorded devices device ask.Discard reply m d n = search
trouble_recorded devices device ask.CloseSession reply m d n = search
trouble_recorded devices device ask.Resync reply m d n = search

-- ---- a reply is handled

pub resync_alone : (what : Ask) → is_resync (Some what) ≡ true → what ≡ ask.Resync
resync_alone what e = grind (arith, nat_tests)

-- what a resynchronisation tells its course
module _ (c : CourseState) (device : ℕ) (reply : Reply) (seat : Seat) where
  abbrev resyncing : Seat
  resyncing = record seat { stage = Resync; awaited = None }

  abbrev middle : CourseState
  middle = record (course.with_seat c device resyncing) { trouble = noted c.verdict c.trouble None }

  heard_course : slice_get c.seats (device - 1) ≡ Some seat → seat.awaited ≡ Some ask.Resync → seat.stage ≡ Resync → course.with_reply c device reply ≡ middle
  heard_course here awaited at =
      ap (course.with_reply_at c device reply) here ∙ ap (course.with_answer c device reply seat) awaited
      ∙ ap (λ s. record (course.with_seat c device (record seat { stage = learnt c.verdict s ask.Resync reply; awaited = None })) { trouble = noted c.verdict c.trouble None }) at

  settled_course : slice_get c.seats (device - 1) ≡ Some seat → (known : Option Bool)
      → settled_by middle device known ≡ record (course.with_seat c device (record seat { stage = found_stage known; awaited = None })) { trouble = noted c.verdict c.trouble None }
  settled_course here None = refl
  settled_course here (Some kept) =
      ap (course.with_settled_at middle device kept) (set_there c.seats (device - 1) seat resyncing here)
      ∙ ap (λ seats. record c { seats = seats; trouble = noted c.verdict c.trouble None }) (set_set c.seats (device - 1) resyncing (record seat { stage = Settled kept; awaited = None }))

  pub found_course : slice_get c.seats (device - 1) ≡ Some seat → seat.awaited ≡ Some ask.Resync → seat.stage ≡ Resync → (known : Option Bool)
      → settled_by (course.with_reply c device reply) device known ≡ record (course.with_seat c device (record seat { stage = found_stage known; awaited = None })) { trouble = noted c.verdict c.trouble None }
  found_course here awaited at known = ap (λ now. settled_by now device known) (heard_course here awaited at) ∙ settled_course here known

module _ (change devices : ℕ) (entries : List Entry) (slot : SlotState) (in_step : IsInStep change devices entries slot) (device : ℕ) (numbered : 1 ≤ device) where
  same_device : device - 1 + 1 ≡ device
  same_device = omega (arith, numbered)

  module _ (side : SideState) (seat : Seat) (here : slice_get slot.course.seats (device - 1) ≡ Some seat) (there : slice_get slot.sides (device - 1) ≡ Some side) (link : ℕ) (exchange : Exchange)
      (due_now : IsDue side.wire link exchange) where
    pair_here : IsSeated devices (device - 1 + 1) seat × GoesWith slot.course.verdict seat side
    pair_here = pair_at change devices entries slot in_step (device - 1) (Some seat) (Some side) here there

    abbrev links : WireState
    links = handled_at side.wire link (Some exchange)

    is_member : mask_contains devices device ≡ true
    is_member = subst (λ d. mask_contains devices d ≡ true) same_device (sym pair_here.0.member ∙ pair_here.1.member (ap is_some due_now.current))

    numbered_reply : has_number exchange.reply ≡ true
    numbered_reply = fair_number slot.course.verdict seat side pair_here.1 link exchange due_now

    plain_stays : (what : Ask) → seat.awaited ≡ Some what → is_resync (Some what) ≡ false
        → IsInStep change devices entries (record { course = course.with_reply slot.course device exchange.reply; sides = slice_set slot.sides (device - 1) (record { wire = links; resync = side.resync }) })
    plain_stays what awaited e =
        let same : course.with_reply slot.course device exchange.reply ≡ course.with_answer slot.course device exchange.reply seat (Some what) =
        ap (course.with_reply_at slot.course device exchange.reply) here ∙ ap (course.with_answer slot.course device exchange.reply seat) awaited in
        stepped change devices entries slot in_step (course.with_reply slot.course device exchange.reply) (device - 1) seat
        (record seat { stage = learnt slot.course.verdict seat.stage what exchange.reply; awaited = None }) side (record { wire = links; resync = side.resync }) here there
        (ap (λ c. c.verdict) same) (ap (λ c. c.seats) same)
        (subst (λ c. IfSome c.trouble (λ why. is_recorded devices why ≡ true)) (sym same)
        (noted_recorded devices slot.course.verdict slot.course.trouble (trouble_in device what exchange.reply) in_step.trouble
        (trouble_recorded devices device what exchange.reply is_member (subst (λ d. is_device d ≡ true) same_device pair_here.0.numbered) numbered_reply)))
        (record { numbered = pair_here.0.numbered; member = pair_here.0.member })
        (heard_goes slot.course.verdict seat side pair_here.1 link exchange due_now what awaited e)

    found_stays : seat.awaited ≡ Some ask.Resync
        → IsInStep change devices entries (record {
          course = settled_by (course.with_reply slot.course device exchange.reply) device (settled_in (resync_learnt side.resync.commit side.resync.stage exchange.reply));
          sides = slice_set slot.sides (device - 1) (record { wire = links; resync = resync.with_reply side.resync exchange.reply });
        })
    found_stays awaited =
        let known : Option Bool = settled_in (resync_learnt side.resync.commit side.resync.stage exchange.reply) in
        let same : settled_by (course.with_reply slot.course device exchange.reply) device known
        ≡ record (course.with_seat slot.course device (record seat { stage = found_stage known; awaited = None })) { trouble = noted slot.course.verdict slot.course.trouble None } =
        found_course slot.course device exchange.reply seat here awaited (at_resync slot.course.verdict seat side pair_here.1 link exchange due_now awaited) known in
        stepped change devices entries slot in_step (settled_by (course.with_reply slot.course device exchange.reply) device known) (device - 1) seat
        (record seat { stage = found_stage known; awaited = None }) side (record { wire = links; resync = resync.with_reply side.resync exchange.reply }) here there
        (ap (λ c. c.verdict) same) (ap (λ c. c.seats) same)
        (subst (λ c. IfSome c.trouble (λ why. is_recorded devices why ≡ true)) (sym same) (noted_recorded devices slot.course.verdict slot.course.trouble None in_step.trouble search))
        (record { numbered = pair_here.0.numbered; member = pair_here.0.member })
        (resynced_goes slot.course.verdict seat side pair_here.1 link exchange due_now awaited)

    -- of what is awaited
    hears_stays : (awaited : Option Ask) → seat.awaited ≡ awaited → (b : Bool) → is_resync awaited ≡ b
        → IsInStep change devices entries (with_pair slot device (hears b slot.course side device links exchange.reply)).slot
    hears_stays None e b r = absurd (let g : None ≡ Some (ask_of exchange.request) = sym (ap (option_map (asked_in_fact side.resync)) e) ∙ pair_here.1.asked ∙ told_ask slot.course.verdict seat side pair_here.1 link exchange due_now in cc)
    hears_stays (Some what) e true r = found_stays (e ∙ ap Some (resync_alone what r))
    hears_stays (Some what) e false r = plain_stays what e r

  due_stays : (link number : ℕ) (side : SideState) (found : Option Seat) → slice_get slot.course.seats (device - 1) ≡ found → slice_get slot.sides (device - 1) ≡ Some side
      → (told : Option Exchange) → due side.wire link number ≡ told
      → IsInStep change devices entries (with_pair slot device (receives_due (awaits_resync found) slot.course side device (handled_at side.wire link told) told)).slot
  due_stays link number side found here there None e = unmoved change devices entries slot in_step (device - 1) side there
  due_stays link number side None here there (Some exchange) e = absurd (pair_at change devices entries slot in_step (device - 1) None (Some side) here there)
  due_stays link number side (Some seat) here there (Some exchange) e =
      hears_stays side seat here there link exchange (due_is side.wire link number exchange e) seat.awaited refl (is_resync seat.awaited) refl

  -- a step for the device, where it has a side
  on_stays : (step : CourseState → SideState → PairStep)
      → ((side : SideState) → slice_get slot.sides (device - 1) ≡ Some side → IsInStep change devices entries (with_pair slot device (step slot.course side)).slot)
      → IsInStep change devices entries (on_side step slot device (slice_get slot.sides (device - 1))).slot
  on_stays step = side_reached step slot device (λ (done : SlotStep). IsInStep change devices entries done.slot) in_step

  pub received_stays : (link number : ℕ) → IsInStep change devices entries (receives slot device link number).slot
  received_stays link number =
      on_stays (receives_pair device link number)
      (λ side there. due_stays link number side (slice_get slot.course.seats (device - 1)) refl there (due side.wire link number) refl)

  -- ---- a link breaks

  breaks_here : (side : SideState) (found : Option Seat) → slice_get slot.course.seats (device - 1) ≡ found → slice_get slot.sides (device - 1) ≡ Some side → (current : Option ℕ)
      → side.wire.current ≡ current → IsInStep change devices entries (with_pair slot device (breaks_current slot.course side device current)).slot
  breaks_here side found here there None e = unmoved change devices entries slot in_step (device - 1) side there
  breaks_here side None here there (Some number) e = absurd (pair_at change devices entries slot in_step (device - 1) None (Some side) here there)
  breaks_here side (Some seat) here there (Some number) e =
      let pair : IsSeated devices (device - 1 + 1) seat × GoesWith slot.course.verdict seat side = pair_at change devices entries slot in_step (device - 1) (Some seat) (Some side) here there in
      let same : course.with_break slot.course device ≡ course.with_break_at slot.course device (Some seat) = ap (course.with_break_at slot.course device) here in
      stepped change devices entries slot in_step (course.with_break slot.course device) (device - 1) seat (record seat { stage = broken_stage seat.stage; awaited = None }) side
      (cut_off (to_commit slot.course.verdict) side) here there (ap (λ c. c.verdict) same) (ap (λ c. c.seats) same)
      (subst (λ c. IfSome c.trouble (λ why. is_recorded devices why ≡ true)) (sym same)
      (noted_recorded devices slot.course.verdict slot.course.trouble (Some (cause.Broken device)) in_step.trouble
      (broken_recorded devices device (subst (λ d. mask_contains devices d ≡ true) same_device (sym pair.0.member ∙ pair.1.member (ap is_some e)))
      (subst (λ d. is_device d ≡ true) same_device pair.0.numbered))))
      (record { numbered = pair.0.numbered; member = pair.0.member }) (broke_goes slot.course.verdict seat side pair.1)

  pub broken_stays : IsInStep change devices entries (breaks slot device).slot
  broken_stays = on_stays (breaks_pair device) (λ side there. breaks_here side (slice_get slot.course.seats (device - 1)) refl there side.wire.current refl)

-- ---- the verdict

decided_pair : (devices : ℕ) (v : Verdict) (device : ℕ) (seat : Option Seat) (side : Option SideState) → GoWith devices None device seat side
    → GoWith devices (Some v) device (option_map (decided_seat v) seat) (option_map (anew (is_commit v)) side)
decided_pair devices v device None None pair = tt
decided_pair devices v device None (Some side) pair = absurd pair
decided_pair devices v device (Some seat) None pair = absurd pair
decided_pair devices v device (Some seat) (Some side) pair = (decided_seated v seat pair.0, decided_goes v seat side pair.1)
  where
    decided_seated : (v : Verdict) (seat : Seat) → IsSeated devices device seat → IsSeated devices device (decided_seat v seat)
    decided_seated verdict.Commit seat s = record { numbered = s.numbered; member = s.member }
    decided_seated (verdict.Abort why) seat s = record { numbered = s.numbered; member = s.member }

pub decided_stays : (change devices : ℕ) (entries : List Entry) (slot : SlotState) (v : Verdict) → IsInStep change devices entries slot → slot.course.verdict ≡ None
    → list_any (decides change) entries ≡ false → IsInStep change devices (entries ++ Decided change v ∷ []) (decided slot v)
decided_stays change devices entries slot v in_step undecided first = record {
  decided = λ e. sym (verdict_new change entries v first);
  trouble = in_step.trouble;
  sides = map_length (anew (is_commit v)) slot.sides ∙ in_step.sides;
  pairs = λ j.
      subst (λ s. GoWith devices (Some v) (j + 1) s (slice_get (map (anew (is_commit v)) slot.sides) j)) (sym (slice_get-map (decided_seat v) slot.course.seats j))
      (subst (λ s. GoWith devices (Some v) (j + 1) (option_map (decided_seat v) (slice_get slot.course.seats j)) s) (sym (slice_get-map (anew (is_commit v)) slot.sides j))
      (decided_pair devices v (j + 1) (slice_get slot.course.seats j) (slice_get slot.sides j)
      (subst (λ o. GoWith devices o (j + 1) (slice_get slot.course.seats j) (slice_get slot.sides j)) undecided (in_step.pairs j))));
}

-- an entry that doesn't decide the change set
pub entered_stays : (change devices : ℕ) (entries : List Entry) (slot : SlotState) (entry : Entry) → IsInStep change devices entries slot → decides change entry ≡ false
    → IsInStep change devices (entries ++ entry ∷ []) slot
entered_stays change devices entries slot entry in_step other = record {
  decided = λ e. in_step.decided (not_ended_before change entries entry e) ∙ sym (verdict_same change entries entry other);
  trouble = in_step.trouble;
  sides = in_step.sides;
  pairs = in_step.pairs;
}

-- ---- memory is lost

by_first : (devices : ℕ) (v : Option Verdict) (first : Stage) (now : SideState → SideState) (sides : List SideState) → length sides ≡ seat_count
    → ((device : ℕ) (side : SideState) → GoesWith v (seat_of devices first device) (now side)) → (j : ℕ)
    → GoWith devices v (j + 1) (slice_get (seats_from devices first 1 seat_count) j) (slice_get (map now sides) j)
by_first devices v first now sides count goes j =
    subst (λ d. GoWith devices v d (slice_get (seats_from devices first 1 seat_count) j) (slice_get (map now sides) j)) (omega arith)
    (from_pairs devices v first now goes sides 1 seat_count j count (omega arith) refl)

forgotten : (decided : Option Verdict) → (devices : ℕ) → IfSome (course.lost_memory decided) (λ why. is_recorded devices why ≡ true)
forgotten None devices = refl
forgotten (Some v) devices = search

pub lost_stays : (change devices : ℕ) (entries : List Entry) (slot : SlotState) → IsInStep change devices entries slot
    → IsInStep change devices entries (lost_memory slot devices (verdict_in change entries))
lost_stays change devices entries slot in_step = record {
  decided = λ e. refl;
  trouble = forgotten (verdict_in change entries) devices;
  sides = map_length (cut_off (to_commit (verdict_in change entries))) slot.sides ∙ in_step.sides;
  pairs = by_first devices (verdict_in change entries) Resync (cut_off (to_commit (verdict_in change entries))) slot.sides in_step.sides
      (λ device side. lost_goes (verdict_in change entries) devices device side);
}

-- a manager that starts anew knows no more than the entries that it read; a change set that wasn't started has no verdict there
anew_as : (change devices : ℕ) (entries : List Entry) (slot : SlotState) → length slot.sides ≡ seat_count → (started ended : Bool) → is_started change entries ≡ started → is_ended_in change entries ≡ ended
    → (is_started change entries ≡ false → verdict_in change entries ≡ None)
    → IsInStep change devices entries (record {
      course = if started && not ended then course.recovered_course change devices (verdict_in change entries) else course.new_course change devices;
      sides = map (cut_off (to_commit (verdict_in change entries))) slot.sides;
    })
anew_as change devices entries slot count true false s n first = record {
  decided = λ e. refl;
  trouble = forgotten (verdict_in change entries) devices;
  sides = map_length (cut_off (to_commit (verdict_in change entries))) slot.sides ∙ count;
  pairs = by_first devices (verdict_in change entries) Resync (cut_off (to_commit (verdict_in change entries))) slot.sides count
      (λ device side. lost_goes (verdict_in change entries) devices device side);
}
anew_as change devices entries slot count true true s n first = record {
  decided = λ e. absurd (let g : true ≡ false = sym n ∙ e in cc);
  trouble = search;
  sides = map_length (cut_off (to_commit (verdict_in change entries))) slot.sides ∙ count;
  pairs = by_first devices None (Live 0) (cut_off (to_commit (verdict_in change entries))) slot.sides count (new_goes (to_commit (verdict_in change entries)) devices);
}
anew_as change devices entries slot count false ended s n first = record {
  decided = λ e. sym (first s);
  trouble = search;
  sides = map_length (cut_off (to_commit (verdict_in change entries))) slot.sides ∙ count;
  pairs = by_first devices None (Live 0) (cut_off (to_commit (verdict_in change entries))) slot.sides count (new_goes (to_commit (verdict_in change entries)) devices);
}

pub anew_stays : (change devices : ℕ) (entries : List Entry) (slot : SlotState) → length slot.sides ≡ seat_count → (is_started change entries ≡ false → verdict_in change entries ≡ None)
    → IsInStep change devices entries (starts_anew entries change devices slot)
anew_stays change devices entries slot count first =
    anew_as change devices entries slot count (is_started change entries) (is_ended_in change entries) refl refl first

-- ---- the beginning

pub fresh_stays : (change devices : ℕ) (entries : List Entry) → verdict_in change entries ≡ None → IsInStep change devices entries (fresh_slot change devices)
fresh_stays change devices entries none = record {
  decided = λ e. sym none;
  trouble = search;
  sides = length_replicate seat_count fresh_side;
  pairs = λ j.
      subst (λ sides. GoWith devices None (j + 1) (slice_get (seats_from devices (Live 0) 1 seat_count) j) (slice_get sides j)) (map_replicate (cut_off false) seat_count fresh_side)
      (by_first devices None (Live 0) (cut_off false) (replicate seat_count fresh_side) (length_replicate seat_count fresh_side) (new_goes false devices) j);
}

-- ---- what happens at a device's side of a link

-- what stands on a link, as far as the course speaks of it
pub record SaysAsMuch (before after : Option LinkState) : Type 0 where
  pub there : is_some after ≡ is_some before
  pub asks : option_and_then way_ask after ≡ option_and_then way_ask before
  pub fair : IfSome (option_and_then way_told before) (λ exchange. is_fair exchange ≡ true) → IfSome (option_and_then way_told after) (λ exchange. is_fair exchange ≡ true)

says_same : (o : Option LinkState) → SaysAsMuch o o
says_same o = record { there = refl; asks = refl; fair = λ h. h }

says_closed : (link : LinkState) → SaysAsMuch (Some link) (Some (closed_link link))
says_closed link = record { there = refl; asks = refl; fair = λ h. h }

says_told : (request : Request) (reply : Reply) (past : List Exchange) (way : Way) (is_open : Bool) → way ≡ Asked request → is_fair (record { request = request; reply = reply }) ≡ true
    → SaysAsMuch (Some (record { past = past; way = way; is_open = is_open })) (Some (told_by reply (record { past = past; way = way; is_open = is_open }) way))
says_told request reply past Quiet is_open h f = absurd (let e : Quiet ≡ Asked request = h in cc)
says_told request reply past (Told exchange) is_open h f = absurd (let e : Told exchange ≡ Asked request = h in cc)
says_told request reply past (Asked other) is_open h f =
    let same : request ≡ other = cc in
    record { there = refl; asks = refl; fair = λ g. subst (λ r. is_fair (record { request = r; reply = reply }) ≡ true) same f }

pub asked_if : (b : Bool) (way : Way) (request : Request) → cond b (asked_on way) None ≡ Some request → way ≡ Asked request
asked_if true Quiet request h = absurd (let e : None ≡ Some request = h in cc)
asked_if true (Asked other) request h = let e : other ≡ request = cc in ap Asked e
asked_if true (Told exchange) request h = absurd (let e : None ≡ Some request = h in cc)
asked_if false way request h = absurd (let e : None ≡ Some request = h in cc)

told_there : (request : Request) (reply : Reply) (found : Option LinkState) → option_and_then outstanding found ≡ Some request → is_fair (record { request = request; reply = reply }) ≡ true
    → IfSome found (λ link. SaysAsMuch (Some link) (Some (told_on reply link)))
told_there request reply None h f = search
told_there request reply (Some link) h f = says_told request reply link.past link.way link.is_open (asked_if link.is_open link.way request h) f

each_closed : (found : Option LinkState) → IfSome found (λ link. SaysAsMuch (Some link) (Some (closed_link link)))
each_closed None = search
each_closed (Some link) = says_closed link

as_before : (before after : WireState) → after.current ≡ before.current → SaysAsMuch (current_link before) (current_link after) → IsAsBefore before after
as_before before after current says = record { current = current; link = says.there; asks = says.asks; fair = says.fair }

pub told_as_before : (wire : WireState) (number : ℕ) (request : Request) (reply : Reply) → outstanding_at wire number ≡ Some request → is_fair (record { request = request; reply = reply }) ≡ true
    → IsAsBefore wire (told wire number reply)
told_as_before wire number request reply h f =
    as_before wire (told wire number reply) (changed_current (told_on reply) wire number (link_at wire number))
    (current_changed SaysAsMuch says_same (told_on reply) wire number (link_at wire number) refl (told_there request reply (link_at wire number) h f))

pub lost_as_before : (wire : WireState) (number : ℕ) → IsAsBefore wire (lost wire number)
lost_as_before wire number =
    as_before wire (lost wire number) (changed_current closed_link wire number (link_at wire number))
    (current_changed SaysAsMuch says_same closed_link wire number (link_at wire number) refl (each_closed (link_at wire number)))

pub restarted_as_before : (wire : WireState) → IsAsBefore wire (restarted wire)
restarted_as_before wire = as_before wire (restarted wire) refl (current_restarted SaysAsMuch says_same says_closed wire)

module _ (change devices : ℕ) (entries : List Entry) (slot : SlotState) (in_step : IsInStep change devices entries slot) (happens : WireState → WireState) (place : ℕ) where
  wires_here : (side : SideState) (seat : Option Seat) → slice_get slot.course.seats place ≡ seat → slice_get slot.sides place ≡ Some side → IsAsBefore side.wire (happens side.wire)
      → IsInStep change devices entries (record { course = slot.course; sides = slice_set slot.sides place (with_wire side (happens side.wire)) })
  wires_here side None here there same = absurd (pair_at change devices entries slot in_step place None (Some side) here there)
  wires_here side (Some seat) here there same =
      let pair : IsSeated devices (place + 1) seat × GoesWith slot.course.verdict seat side = pair_at change devices entries slot in_step place (Some seat) (Some side) here there in
      stepped change devices entries slot in_step slot.course place seat seat side (with_wire side (happens side.wire)) here there refl (sym (set_same slot.course.seats place seat here)) in_step.trouble
      pair.0 (wire_goes slot.course.verdict seat side (happens side.wire) same pair.1)

pub wires_stay : (change devices : ℕ) (entries : List Entry) (slot : SlotState) (happens : WireState → WireState) (device : ℕ) → IsInStep change devices entries slot → (found : Option SideState)
    → slice_get slot.sides (device - 1) ≡ found → IfSome found (λ side. IsAsBefore side.wire (happens side.wire)) → IsInStep change devices entries (wires_on happens slot device found)
wires_stay change devices entries slot happens device in_step None there same = in_step
wires_stay change devices entries slot happens device in_step (Some side) there same =
    wires_here change devices entries slot in_step happens (device - 1) side (slice_get slot.course.seats (device - 1)) refl there same
