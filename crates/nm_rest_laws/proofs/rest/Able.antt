-- Each step of the manager for a change set leaves its course and its links so that it can go on.
use Rattle.std.proofs.Common.{◌≡◌, ◌∙◌, ℕ, zero, suc, ◌+◌, ◌-◌, Bool, true, false, cond, not, ◌&&◌, List, [], ◌∷◌, map, Option, Some, None, IfSome, is_some, is_none, option_map, slice_get, slice_set, refl, sym, ap, subst, arith}
use Rattle.std.proofs.lemmas.Option.{slice_get-map}
use Rattle.nm_proto.specs.declared.ask.Ask.{Ask}
use Rattle.nm_proto.specs.declared.ask.Ask.TheVariants as ask
use Rattle.nm_proto.specs.declared.message.Request.{Request}
use Rattle.nm_proto.specs.declared.message.Request.TheVariants.{OpenSession, Lock, Unlock, PartialLock, PartialUnlock, Edit, Validate, Commit, CancelCommit, Discard, HasMark, GetConfig, Kill, CloseSession}
use Rattle.nm_proto.specs.declared.journal.AbortCause.{AbortCause}
use Rattle.nm_proto.specs.declared.journal.AbortCause.TheVariants as cause
use Rattle.nm_proto.specs.declared.journal.Verdict.{Verdict}
use Rattle.nm_proto.specs.declared.journal.Verdict.TheVariants as verdict
use Rattle.nm_proto.specs.declared.journal.Entry.{Entry}
use Rattle.nm_proto.specs.declared.plan.ChangePlan.{ChangePlan}
use Rattle.nm_recovery.specs.Recovery.{is_started, is_ended_in, verdict_in}
use Rattle.nm_device.specs.Table.{is_opening}
use Rattle.nm_decider_stage.specs.declared.stage.Stage.{Stage}
use Rattle.nm_decider_stage.specs.declared.stage.Stage.TheVariants.{Live, Resync}
use Rattle.nm_decider_stage.specs.Stages.{learnt, trouble_in, broken_stage, is_acknowledged}
use Rattle.nm_decider.specs.declared.seat.Seat.{Seat}
use Rattle.nm_decider.specs.declared.course.NextAction.TheVariants.{Send, Decide}
use Rattle.nm_decider.specs.Course as course
use Rattle.nm_decider.specs.Course.{CourseState, next_action, noted, asked_next, renewed, decided_seat, seat_of, seats_from, seat_count}
use Rattle.nm_decider.specs.Rightly.{IsAsked, IsReady}
use Rattle.nm_decider.proofs.Actions.{asked}
use Rattle.nm_resync.specs.Resync as resync
use Rattle.nm_resync.specs.Resync.{settled_in, resync_learnt}
use Rattle.nm_wire.specs.declared.link.Exchange.{Exchange}
use Rattle.nm_wire.specs.Asks.{ask_of, lock_ask, commit_ask, cancel_ask}
use Rattle.nm_wire.specs.Wire.{WireState, handled_at, due}
use Rattle.nm_manager.specs.Requests.{request_for}
use Rattle.nm_manager.specs.Slot.{SideState, SlotState, PairStep, SlotStep, with_pair, with_wire, asked_in_fact, opens, may_go, gone, sends_if, sends_request, sends, renews_if, renews, is_resync, awaits_resync, receives_due, receives, breaks_current, breaks, cut_off, anew, is_commit, to_commit, decided, lost_memory, on_side, sends_pair, renews_pair, receives_pair, breaks_pair}
use Rattle.nm_manager.specs.Manager.{starts_anew}
use Rattle.nm_manager.proofs.Kept.{asks_fit}
use Rattle.nm_safety.specs.Step.{GoesWith, IsInStep, may_stand, awaits_rightly, current_ask}
use Rattle.nm_safety.proofs.Places.{set_same}
use Rattle.nm_safety.proofs.Tables.{found_stage}
use Rattle.nm_safety.proofs.Wires.{IsDue, due_is}
use Rattle.nm_safety.proofs.Pairs.{told_ask, at_resync}
use Rattle.nm_safety.proofs.PairSteps.{pair_at, found_course, resync_alone}
use Rattle.nm_safety.proofs.Lists.{at_set, some_is, to_some}
use Rattle.nm_manager.proofs.Reach.{side_reached}
use Rattle.nm_rest_laws.specs.Steady.{is_right, IsRightSeat, IsSteady}
use Rattle.nm_rest_laws.proofs.rest.Right.{sent_right, noted_right, learnt_right, broken_right, commit_right, abort_right, settled_right}
use Rattle.nm_rest_laws.proofs.rest.Wires.{begun_steady, sent_steady, handled_steady, broken_steady}
use Rattle.nm_safety.proofs.Seats.{acts, listed}

pub noted_none : (v : Option Verdict) (t : Option AbortCause) → noted v t None ≡ t
noted_none v (Some why) = refl
noted_none None None = refl
noted_none (Some decided) None = refl

-- who asks for a session
pub opening_ask : (request : Request) (b : Bool) → is_opening request ≡ b → opens (ask_of request) ≡ b
opening_ask (OpenSession user) b e = e
opening_ask (Lock store) b e = locks store ∙ e
  where
    locks : (store : _) → opens (lock_ask store) ≡ false
    locks store = grind arith
opening_ask (Unlock store) b e = e
opening_ask (PartialLock select) b e = e
opening_ask (PartialUnlock id) b e = e
opening_ask (Edit edit operation marks) b e = e
opening_ask Validate b e = e
opening_ask (Commit confirmed timeout persist persist_id) b e = commits confirmed (is_some persist) (is_some persist_id) ∙ e
  where
    commits : (a b c : Bool) → opens (commit_ask a b c) ≡ false
    commits a b c = grind arith
opening_ask (CancelCommit persist_id) b e = cancels (is_some persist_id) ∙ e
  where
    cancels : (a : Bool) → opens (cancel_ask a) ≡ false
    cancels a = grind arith
opening_ask Discard b e = e
opening_ask (HasMark change) b e = e
opening_ask GetConfig b e = e
opening_ask (Kill other) b e = e
opening_ask CloseSession b e = e

pub seats_each : (devices : ℕ) (first : Stage) (P : Seat → Type 0) → ((device : ℕ) → P (seat_of devices first device)) → (device count j : ℕ) → IfSome (slice_get (seats_from devices first device count) j) P
unfolding seats_from
seats_each devices first P p device zero j = tt
seats_each devices first P p device (suc count) zero = p device
seats_each devices first P p device (suc count) (suc j) = seats_each devices first P p (device + 1) count j

pub mapped_all : {A : Type 0} (P Q : A → Type 0) (change : A → A) → ((x : A) → P x → Q (change x)) → (xs : List A) (j : ℕ) → IfSome (slice_get xs j) P → IfSome (slice_get (map change xs) j) Q
mapped_all P Q change step [] j p = tt
mapped_all P Q change step (x ∷ xs) zero p = step x p
mapped_all P Q change step (x ∷ xs) (suc j) p = mapped_all P Q change step xs j p

none_right : (v : Option Verdict) (t : Option AbortCause) → is_right v t Resync (Some ask.Resync) ≡ true → is_right v t Resync None ≡ true
none_right None t h = h
none_right (Some verdict.Commit) t h = h
none_right (Some (verdict.Abort why)) t h = h

found_right : (v : Option Verdict) (t : Option AbortCause) (known : Option Bool) → is_right v t Resync (Some ask.Resync) ≡ true → is_right v t (found_stage known) None ≡ true
found_right v t None h = none_right v t h
found_right v t (Some kept) h = settled_right v t kept (none_right v t h)

-- what is so of a change set's course and links, wherever its queues stand
pub record GoesOn (slot : SlotState) : Type 0 where
  pub course : (j : ℕ) → IfSome (slice_get slot.course.seats j) (IsRightSeat slot.course.verdict slot.course.trouble)
  pub wires : (j : ℕ) → IfSome (slice_get slot.sides j) (λ side. IsSteady side.wire)

module _ (change members : ℕ) (entries : List Entry) (slot : SlotState) (a : GoesOn slot) (in_step : IsInStep change members entries slot) where
  abbrev v : Option Verdict
  v = slot.course.verdict

  abbrev t : Option AbortCause
  t = slot.course.trouble

  abbrev Right : Option AbortCause → Seat → Type 0
  Right noted_now seat = IsRightSeat v noted_now seat

  seat_right : (place : ℕ) (seat : Seat) → slice_get slot.course.seats place ≡ Some seat → Right t seat
  seat_right place seat here = some_is seat (IsRightSeat v t) (slice_get slot.course.seats place) here (a.course place)

  side_steady : (place : ℕ) (side : SideState) → slice_get slot.sides place ≡ Some side → IsSteady side.wire
  side_steady place side there = some_is side (λ one. IsSteady one.wire) (slice_get slot.sides place) there (a.wires place)

  -- one seat and its side have changed, and perhaps what is noted
  pub stepped_able : (now : CourseState) (place : ℕ) (seat new_seat : Seat) (side new_side : SideState) (more : Option AbortCause) → slice_get slot.course.seats place ≡ Some seat → slice_get slot.sides place ≡ Some side
      → now.verdict ≡ v → now.trouble ≡ noted v t more → now.seats ≡ slice_set slot.course.seats place new_seat → Right (noted v t more) new_seat → IsSteady new_side.wire
      → GoesOn (record { course = now; sides = slice_set slot.sides place new_side })
  stepped_able now place seat new_seat side new_side more here there same_v same_t same right steady = record {
    course = λ j.
        subst (λ one. IfSome (slice_get now.seats j) (IsRightSeat one now.trouble)) (sym same_v)
        (subst (λ one. IfSome (slice_get now.seats j) (IsRightSeat v one)) (sym same_t)
        (subst (λ one. IfSome (slice_get one j) (IsRightSeat v (noted v t more))) (sym same)
        (at_set (λ k. Right (noted v t more)) slot.course.seats place seat new_seat here right
        (λ k. to_some (Right (noted v t more)) (slice_get slot.course.seats k) (λ one is member. noted_right v t more one.stage one.awaited (seat_right k one is member))) j)));
    wires = at_set (λ k one. IsSteady one.wire) slot.sides place side new_side there steady a.wires;
  }

  same_able : (place : ℕ) (side : SideState) → slice_get slot.sides place ≡ Some side → GoesOn (record { course = slot.course; sides = slice_set slot.sides place side })
  same_able place side there = subst (λ sides. GoesOn (record { course = slot.course; sides = sides })) (sym (set_same slot.sides place side there)) a

  -- a step for a device, where it has a side
  on_able : (step : CourseState → SideState → PairStep) (device : ℕ)
      → ((side : SideState) → slice_get slot.sides (device - 1) ≡ Some side → GoesOn (with_pair slot device (step slot.course side)).slot)
      → GoesOn (on_side step slot device (slice_get slot.sides (device - 1))).slot
  on_able step device = side_reached step slot device (λ (done : SlotStep). GoesOn done.slot) a

  -- ---- a request goes out

  module _ (device : ℕ) (seat : Seat) (side : SideState) (here : slice_get slot.course.seats (device - 1) ≡ Some seat) (there : slice_get slot.sides (device - 1) ≡ Some side)
      (now : CourseState) (new_seat : Seat) (same : now ≡ course.with_seat slot.course device new_seat) (right : Right t new_seat) where
    gone_steady : (new : Bool) (request : Request) → opens (ask_of request) ≡ new → may_go new side.wire ≡ true → IsSteady (gone new side.wire request)
    gone_steady true request o goes = begun_steady side.wire request (sym (opening_ask request (is_opening request) refl) ∙ o) (side_steady (device - 1) side there)
    gone_steady false request o goes = sent_steady side.wire request (sym (opening_ask request (is_opening request) refl) ∙ o) goes (side_steady (device - 1) side there)

    out_if : (new : Bool) (request : Request) → opens (ask_of request) ≡ new → (b : Bool) → may_go new side.wire ≡ b → GoesOn (with_pair slot device (sends_if b new device slot.course now side request)).slot
    out_if new request o false e = same_able (device - 1) side there
    out_if new request o true e =
        stepped_able now (device - 1) seat new_seat side (with_wire side (gone new side.wire request)) None here there (ap (λ c. c.verdict) same) (ap (λ c. c.trouble) same ∙ sym (noted_none v t)) (ap (λ c. c.seats) same)
        (subst (λ one. Right one new_seat) (sym (noted_none v t)) right) (gone_steady new request o e)

    pub out_able : (new : Bool) (in_fact : Ask) (found : Option Request) → IfSome found (λ request. ask_of request ≡ in_fact) → opens in_fact ≡ new
        → GoesOn (with_pair slot device (sends_request new device slot.course now side found)).slot
    out_able new in_fact None asks o = same_able (device - 1) side there
    out_able new in_fact (Some request) asks o = out_if new request (ap opens asks ∙ o) (may_go new side.wire) refl

  module _ (plan : ChangePlan) where
    sent_side_able : (device : ℕ) (what : Ask) (i : IsAsked slot.course device what) (side : SideState) → slice_get slot.sides (device - 1) ≡ Some side
        → GoesOn (with_pair slot device (sends_pair plan entries device what slot.course side)).slot
    sent_side_able device what i side there =
        out_able device i.seat side i.here there (course.with_sent slot.course device) (asked_next v i.seat) (ap (course.with_sent_at slot.course device) i.here)
        (λ member. subst (λ o. is_right v t i.seat.stage o ≡ true) (sym i.next) (sent_right v t i.seat.stage what i.next (subst (λ o. is_right v t i.seat.stage o ≡ true) i.quiet (seat_right (device - 1) i.seat i.here member))))
        (opens (asked_in_fact side.resync what)) (asked_in_fact side.resync what) (request_for plan entries slot.course.change device (asked_in_fact side.resync what))
        (asks_fit plan entries slot.course.change device (asked_in_fact side.resync what)) refl

    pub sent_able : (device : ℕ) (what : Ask) → next_action slot.course ≡ Send device what → GoesOn (sends plan entries slot device what).slot
    sent_able device what h = on_able (sends_pair plan entries device what) device (sent_side_able device what (asked slot.course device what h))

    renew_right : (trouble : Option AbortCause) (verdict_now : Option Verdict) (stage : Stage) → is_none verdict_now ≡ true → is_none trouble ≡ true → is_acknowledged stage ≡ true → is_right verdict_now trouble stage (Some ask.Renew) ≡ true
    renew_right trouble verdict_now stage u c k = grind arith

    renewed_if_able : (device : ℕ) (side : SideState) → slice_get slot.sides (device - 1) ≡ Some side → (seat : Option Seat) → slice_get slot.course.seats (device - 1) ≡ seat → (b : Bool)
        → (is_none v && (is_none t && course.may_renew_seat seat)) ≡ b → GoesOn (with_pair slot device (renews_if b plan entries slot.course side device)).slot
    renewed_if_able device side there seat here false e = same_able (device - 1) side there
    renewed_if_able device side there None here true e = absurd (no (is_none v) (is_none t) e)
      where
        no : (x y : Bool) → (x && (y && false)) ≡ true → ⊥
        no true true h = absurd (let f : false ≡ true = h in cc)
        no true false h = absurd (let f : false ≡ true = h in cc)
        no false y h = absurd (let f : false ≡ true = h in cc)
    renewed_if_able device side there (Some seat) here true e =
        out_able device seat side here there (course.with_renewed slot.course device) (renewed seat) (ap (course.with_renewed_at slot.course device) here)
        (λ member. renew_right t v seat.stage (parts (is_none v) (is_none t) seat.is_member (is_none seat.awaited) (is_acknowledged seat.stage) e).0 (parts (is_none v) (is_none t) seat.is_member (is_none seat.awaited) (is_acknowledged seat.stage) e).1.0
        (parts (is_none v) (is_none t) seat.is_member (is_none seat.awaited) (is_acknowledged seat.stage) e).1.1)
        false ask.Renew (request_for plan entries slot.course.change device ask.Renew) (asks_fit plan entries slot.course.change device ask.Renew) refl
      where
        parts : (x y z w k : Bool) → (x && (y && (z && (w && k)))) ≡ true → (x ≡ true) × ((y ≡ true) × (k ≡ true))
        parts true true true true true h = (refl, (refl, refl))
        parts true true true true false h = absurd (let f : false ≡ true = h in cc)
        parts true true true false k h = absurd (let f : false ≡ true = h in cc)
        parts true true false w k h = absurd (let f : false ≡ true = h in cc)
        parts true false z w k h = absurd (let f : false ≡ true = h in cc)
        parts false y z w k h = absurd (let f : false ≡ true = h in cc)

    pub renewed_able : (device : ℕ) → GoesOn (renews plan entries slot device).slot
    renewed_able device =
        on_able (renews_pair plan entries device) device
        (λ side there. renewed_if_able device side there (slice_get slot.course.seats (device - 1)) refl (course.may_renew slot.course device) refl)

  -- ---- a reply is handled

  module _ (device : ℕ) (seat : Seat) (side : SideState) (here : slice_get slot.course.seats (device - 1) ≡ Some seat) (there : slice_get slot.sides (device - 1) ≡ Some side) (link : ℕ) (exchange : Exchange) (d : IsDue side.wire link exchange) where
    pair_here : GoesWith v seat side
    pair_here = (pair_at change members entries slot in_step (device - 1) (Some seat) (Some side) here there).1

    abbrev handled_wire : WireState
    handled_wire = handled_at side.wire link (Some exchange)

    pub heard_able : (what : Ask) → seat.awaited ≡ Some what → (b : Bool) → is_resync (Some what) ≡ b → awaits_resync (Some seat) ≡ b
        → GoesOn (with_pair slot device (receives_due b slot.course side device handled_wire (Some exchange))).slot
    heard_able what awaited false e k =
        let same : course.with_reply slot.course device exchange.reply ≡ course.with_answer slot.course device exchange.reply seat (Some what) =
        ap (course.with_reply_at slot.course device exchange.reply) here ∙ ap (course.with_answer slot.course device exchange.reply seat) awaited in
        stepped_able (course.with_reply slot.course device exchange.reply) (device - 1) seat (record seat { stage = learnt v seat.stage what exchange.reply; awaited = None }) side (record { wire = handled_wire; resync = side.resync })
        (trouble_in device what exchange.reply) here there (ap (λ c. c.verdict) same) (ap (λ c. c.trouble) same) (ap (λ c. c.seats) same)
        (λ member. learnt_right device v t seat.stage what exchange.reply (subst (λ o. is_right v t seat.stage o ≡ true) awaited (seat_right (device - 1) seat here member)) (subst (λ o. awaits_rightly v seat.stage o ≡ true) awaited pair_here.awaits))
        (handled_steady side.wire link exchange d (side_steady (device - 1) side there))
    heard_able what awaited true e k =
        let is_it : what ≡ ask.Resync = resync_alone what e in
        let awaits_it : seat.awaited ≡ Some ask.Resync = awaited ∙ ap Some is_it in
        let at : seat.stage ≡ Resync = at_resync v seat side pair_here link exchange d awaits_it in
        let known : Option Bool = settled_in (resync_learnt side.resync.commit side.resync.stage exchange.reply) in
        let same = found_course slot.course device exchange.reply seat here awaits_it at known in
        stepped_able _ (device - 1) seat (record seat { stage = found_stage known; awaited = None }) side (record { wire = handled_wire; resync = resync.with_reply side.resync exchange.reply })
        None here there (ap (λ (c : CourseState). c.verdict) same) (ap (λ (c : CourseState). c.trouble) same) (ap (λ (c : CourseState). c.seats) same)
        (λ member. subst (λ o. is_right v o (found_stage known) None ≡ true) (sym (noted_none v t))
        (found_right v t known (subst (λ s. is_right v t s (Some ask.Resync) ≡ true) at (subst (λ o. is_right v t seat.stage o ≡ true) awaits_it (seat_right (device - 1) seat here member)))))
        (handled_steady side.wire link exchange d (side_steady (device - 1) side there))

    heard_by : (awaited : Option Ask) → seat.awaited ≡ awaited → GoesOn (with_pair slot device (receives_due (awaits_resync (Some seat)) slot.course side device handled_wire (Some exchange))).slot
    heard_by None e =
        let told : current_ask side.wire ≡ Some (ask_of exchange.request) = told_ask v seat side pair_here link exchange d in
        absurd (let f : None ≡ Some (ask_of exchange.request) = sym (ap (option_map (asked_in_fact side.resync)) e) ∙ pair_here.asked ∙ told in cc)
    heard_by (Some what) e = heard_able what e (awaits_resync (Some seat)) (sym (ap is_resync e)) refl

    pub heard_now : GoesOn (with_pair slot device (receives_due (awaits_resync (slice_get slot.course.seats (device - 1))) slot.course side device handled_wire (Some exchange))).slot
    heard_now = subst (λ o. GoesOn (with_pair slot device (receives_due (awaits_resync o) slot.course side device handled_wire (Some exchange))).slot) (sym here) (heard_by seat.awaited refl)

  -- a side has its seat
  seat_there : (P : Type 0) (place : ℕ) (side : SideState) → slice_get slot.sides place ≡ Some side → (seat : Option Seat) → slice_get slot.course.seats place ≡ seat → ((one : Seat) → slice_get slot.course.seats place ≡ Some one → P) → P
  seat_there P place side there None here step = absurd (pair_at change members entries slot in_step place None (Some side) here there)
  seat_there P place side there (Some seat) here step = step seat here

  due_able : (device link : ℕ) (side : SideState) → slice_get slot.sides (device - 1) ≡ Some side → (number : ℕ) (told_now : Option Exchange) → due side.wire link number ≡ told_now
      → GoesOn (with_pair slot device (receives_due (awaits_resync (slice_get slot.course.seats (device - 1))) slot.course side device (handled_at side.wire link told_now) told_now)).slot
  due_able device link side there number None e = same_able (device - 1) side there
  due_able device link side there number (Some exchange) e =
      seat_there _ (device - 1) side there (slice_get slot.course.seats (device - 1)) refl (λ seat here. heard_now device seat side here there link exchange (due_is side.wire link number exchange e))

  pub received_able : (device link number : ℕ) → GoesOn (receives slot device link number).slot
  received_able device link number =
      on_able (receives_pair device link number) device (λ side there. due_able device link side there number (due side.wire link number) refl)

  -- ---- a link breaks

  breaks_able : (device : ℕ) (side : SideState) → slice_get slot.sides (device - 1) ≡ Some side → (current : Option ℕ) → GoesOn (with_pair slot device (breaks_current slot.course side device current)).slot
  breaks_able device side there None = same_able (device - 1) side there
  breaks_able device side there (Some number) =
      seat_there _ (device - 1) side there (slice_get slot.course.seats (device - 1)) refl
      (λ seat here.
      let same : course.with_break slot.course device ≡ course.with_break_at slot.course device (Some seat) = ap (course.with_break_at slot.course device) here in
      stepped_able (course.with_break slot.course device) (device - 1) seat (record seat { stage = broken_stage seat.stage; awaited = None }) side (cut_off (to_commit v) side)
      (Some (cause.Broken device)) here there (ap (λ c. c.verdict) same) (ap (λ c. c.trouble) same) (ap (λ c. c.seats) same)
      (λ member. broken_right v t (cause.Broken device) seat.stage) (broken_steady side.wire (side_steady (device - 1) side there)))

  pub broken_able : (device : ℕ) → GoesOn (breaks slot device).slot
  broken_able device = on_able (breaks_pair device) device (λ side there. breaks_able device side there side.wire.current)

  -- ---- the verdict falls

  stands_undecided : v ≡ None → (place : ℕ) (seat : Seat) → slice_get slot.course.seats place ≡ Some seat → may_stand None seat.stage ≡ true
  stands_undecided undecided place seat here = by_side (slice_get slot.sides place) refl
    where
      by_side : (side : Option SideState) → slice_get slot.sides place ≡ side → may_stand None seat.stage ≡ true
      by_side None there = absurd (pair_at change members entries slot in_step place (Some seat) None here there)
      by_side (Some side) there = subst (λ one. may_stand one seat.stage ≡ true) undecided (pair_at change members entries slot in_step place (Some seat) (Some side) here there).1.stands

  decided_right : (w : Verdict) → next_action slot.course ≡ Decide w → (place : ℕ) (seat : Seat) → slice_get slot.course.seats place ≡ Some seat → IsRightSeat (Some w) t (decided_seat w seat)
  decided_right verdict.Commit next place seat here member =
      let is : IsReady seat = listed (λ one. one.is_member ≡ true → IsReady one) slot.course.seats ((acts change members entries slot in_step).commits next).ready place seat here member in
      subst (λ o. is_right (Some verdict.Commit) t seat.stage o ≡ true) (sym is.quiet) (commit_right t seat.stage is.acknowledged)
  decided_right (verdict.Abort why) next place seat here member =
      abort_right t why seat.stage seat.awaited (stands_undecided ((acts change members entries slot in_step).aborts why next).undecided place seat here)

  pub decided_able : (w : Verdict) → next_action slot.course ≡ Decide w → GoesOn (decided slot w)
  decided_able w next = record {
    course = λ j. subst (λ o. IfSome o (IsRightSeat (Some w) t)) (sym (slice_get-map (decided_seat w) slot.course.seats j)) (each (slice_get slot.course.seats j) (λ seat here. decided_right w next j seat here));
    wires = λ j. mapped_all (λ side. IsSteady side.wire) (λ side. IsSteady side.wire) (anew (is_commit w)) (λ side h. h) slot.sides j (a.wires j);
  }
    where
      each : (o : Option Seat) → ((seat : Seat) → o ≡ Some seat → IsRightSeat (Some w) t (decided_seat w seat)) → IfSome (option_map (decided_seat w) o) (IsRightSeat (Some w) t)
      each None h = tt
      each (Some seat) h = h seat refl

  -- what is cut has no current link
  cut_wires : (commit : Bool) (j : ℕ) → IfSome (slice_get (map (cut_off commit) slot.sides) j) (λ side. IsSteady side.wire)
  cut_wires commit j = mapped_all (λ side. IsSteady side.wire) (λ side. IsSteady side.wire) (cut_off commit) (λ side h. broken_steady side.wire h) slot.sides j (a.wires j)

  recovered_right : (found : Option Verdict) (devices device : ℕ) → IsRightSeat found (course.lost_memory found) (seat_of devices Resync device)
  recovered_right None devices device member = refl
  recovered_right (Some verdict.Commit) devices device member = refl
  recovered_right (Some (verdict.Abort why)) devices device member = refl

  pub lost_able : (devices : ℕ) (found : Option Verdict) → GoesOn (lost_memory slot devices found)
  lost_able devices found = record {
    course = seats_each devices Resync (IsRightSeat found (course.lost_memory found)) (recovered_right found devices) 1 seat_count;
    wires = cut_wires (to_commit found);
  }

  anew_by : (devices : ℕ) (b : Bool) → (j : ℕ) → IfSome (slice_get (cond b (course.recovered_course change devices (verdict_in change entries)) (course.new_course change devices)).seats j)
      (IsRightSeat (cond b (course.recovered_course change devices (verdict_in change entries)) (course.new_course change devices)).verdict (cond b (course.recovered_course change devices (verdict_in change entries)) (course.new_course change devices)).trouble)
  anew_by devices true = seats_each devices Resync (IsRightSeat (verdict_in change entries) (course.lost_memory (verdict_in change entries))) (recovered_right (verdict_in change entries) devices) 1 seat_count
  anew_by devices false = seats_each devices (Live 0) (IsRightSeat None None) (λ device member. refl) 1 seat_count

  pub anew_able : (devices : ℕ) → GoesOn (starts_anew entries change devices slot)
  anew_able devices = record {
    course = anew_by devices (is_started change entries && not (is_ended_in change entries));
    wires = cut_wires (to_commit (verdict_in change entries));
  }
