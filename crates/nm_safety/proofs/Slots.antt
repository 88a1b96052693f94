-- All pairs of a change set, at each step of the manager.
use Rattle.std.proofs.Common.{◌≡◌, ◌<◌, map, ◌∙◌, ℕ, ◌+◌, ◌-◌, Bool, true, false, ◌&&◌, List, Option, Some, None, IfSome, is_some, is_none, slice_get, slice_set, option_map, refl, sym, ap, subst, arith}
use Rattle.std.proofs.lemmas.Option.{slice_get-map, slice_get_within}
use Rattle.nm_base.specs.Mask.{mask_contains}
use Rattle.nm_decider_stage.specs.declared.stage.Stage.TheVariants.{Live, Resync}
use Rattle.nm_recovery.specs.Recovery.{is_started, is_ended_in, verdict_in}
use Rattle.nm_manager.specs.Manager.{starts_anew}
use Rattle.nm_safety.proofs.Basics.{never}
use Rattle.std.proofs.Common.{if◌then◌else◌, not, [], is_none, ◌&&◌}
use Rattle.nm_proto.specs.declared.ask.Ask.{Ask}
use Rattle.nm_proto.specs.declared.ask.Ask.TheVariants as ask
use Rattle.nm_proto.specs.declared.message.Request.{Request}
use Rattle.nm_proto.specs.declared.journal.Verdict.{Verdict}
use Rattle.nm_proto.specs.declared.journal.Entry.{Entry}
use Rattle.nm_proto.specs.declared.plan.ChangePlan.{ChangePlan}
use Rattle.nm_history.specs.History.{RecordedState}
use Rattle.nm_decider_stage.specs.declared.stage.Stage.{Stage}
use Rattle.nm_decider_stage.specs.Stages.{next_ask, learnt, is_acknowledged, broken_stage}
use Rattle.nm_decider.specs.declared.course.NextAction.TheVariants.{Send}
use Rattle.nm_decider.specs.declared.seat.Seat.{Seat}
use Rattle.nm_decider.specs.Course as course
use Rattle.nm_decider.specs.Course.{CourseState, asked_next, renewed, next_action, may_renew_seat, seat_of, seats_from, seat_count, decided_seat}
use Rattle.nm_decider.specs.Rightly.{IsAsked}
use Rattle.nm_decider.proofs.Actions.{asked}
use Rattle.nm_wire.specs.Asks.{ask_of}
use Rattle.nm_wire.specs.declared.link.Exchange.{Exchange}
use Rattle.nm_wire.specs.Wire.{WireState, broken, handled_at, due, restarted}
use Rattle.nm_resync.specs.Resync.{ResyncState, settled_in, resync_learnt}
use Rattle.nm_resync.specs.Resync as resync
use Rattle.nm_manager.specs.Requests.{request_for}
use Rattle.nm_manager.specs.Slot.{SideState, SlotState, PairStep, SlotStep, with_pair, with_wire, asked_in_fact, opens, may_go, gone, sends_if, sends_request, sends, renews_if, renews, breaks_current, breaks, cut_off, to_commit, is_commit, anew, decided, lost_memory, is_resync, awaits_resync, settled_by, hears, receives_due, receives, wires_on, lost_wire, on_side, sends_pair, renews_pair, receives_pair, breaks_pair}
use Rattle.nm_manager.proofs.Kept.{asks_fit}
use Rattle.nm_manager.proofs.Reach.{side_reached}
use Rattle.nm_safety.specs.Step.{GoesWith, IsSeated, IsInStep}
use Rattle.nm_safety.specs.Pair.{PairHolds}
use Rattle.nm_safety.specs.Slots.{HoldsAt, AllHold}
use Rattle.nm_safety.proofs.Places.{both_set, set_same, seat_from}
use Rattle.nm_safety.proofs.Wires.{IsDue, due_is}
use Rattle.nm_safety.proofs.Tables.{both, found_stage}
use Rattle.nm_safety.proofs.Pairs.{has_verdict, at_resync, told_ask}
use Rattle.nm_safety.proofs.PairSteps.{pair_at, found_course, resync_alone}
use Rattle.nm_safety.proofs.Turned.{turned_pair, renewed_pair}
use Rattle.nm_safety.proofs.Handled.{handled_pair, resynced_pair}
use Rattle.nm_safety.proofs.Cut.{broken_pair, anew_pair, lost_pair, decided_pair, closed_pair, restarted_pair}

module _ {Config Node : Type 0} (change : ℕ) (decided : Option Verdict) (devices : List (RecordedState Config Node)) (slot : SlotState) (all : AllHold change decided slot devices) where
  at_device : (seat new_seat : Seat) (side new_side : SideState) (r : Option (RecordedState Config Node))
      → ((r : RecordedState Config Node) → PairHolds change decided seat side.wire r → PairHolds change decided new_seat new_side.wire r)
      → HoldsAt change decided (Some seat) (Some side) r → HoldsAt change decided (Some new_seat) (Some new_side) r
  at_device seat new_seat side new_side None step holds = tt
  at_device seat new_seat side new_side (Some r) step holds = step r holds

  -- one seat and its side have changed
  pub stepped_holds : (now : CourseState) (place : ℕ) (seat new_seat : Seat) (side new_side : SideState) → slice_get slot.course.seats place ≡ Some seat → slice_get slot.sides place ≡ Some side
      → now.seats ≡ slice_set slot.course.seats place new_seat
      → ((r : RecordedState Config Node) → PairHolds change decided seat side.wire r → PairHolds change decided new_seat new_side.wire r)
      → AllHold change decided (record { course = now; sides = slice_set slot.sides place new_side }) devices
  stepped_holds now place seat new_seat side new_side here there seats step j =
      subst (λ s. HoldsAt change decided (slice_get s j) (slice_get (slice_set slot.sides place new_side) j) (slice_get devices j)) (sym seats)
      (both_set (λ k one other. HoldsAt change decided one other (slice_get devices k)) slot.course.seats slot.sides place seat new_seat side new_side here there all
      (at_device seat new_seat side new_side (slice_get devices place) step
      (subst (λ s. HoldsAt change decided (Some seat) s (slice_get devices place)) there (subst (λ s. HoldsAt change decided s (slice_get slot.sides place) (slice_get devices place)) here (all place)))) j)

  -- nothing has changed
  pub unmoved_holds : (place : ℕ) (side : SideState) → slice_get slot.sides place ≡ Some side → AllHold change decided (record { course = slot.course; sides = slice_set slot.sides place side }) devices
  unmoved_holds place side there = subst (λ sides. AllHold change decided (record { course = slot.course; sides = sides }) devices) (sym (set_same slot.sides place side there)) all

  -- a step for a device, where it has a side
  on_holds : (step : CourseState → SideState → PairStep) (device : ℕ)
      → ((side : SideState) → slice_get slot.sides (device - 1) ≡ Some side → AllHold change decided (with_pair slot device (step slot.course side)).slot devices)
      → AllHold change decided (on_side step slot device (slice_get slot.sides (device - 1))).slot devices
  on_holds step device = side_reached step slot device (λ (done : SlotStep). AllHold change decided done.slot devices) all

  module _ (members : ℕ) (entries : List Entry) (in_step : IsInStep change members entries slot) (of_journal : slot.course.verdict ≡ decided) where
    goes_at : (place : ℕ) (seat : Seat) (side : SideState) → slice_get slot.course.seats place ≡ Some seat → slice_get slot.sides place ≡ Some side → GoesWith decided seat side
    goes_at place seat side here there = subst (λ v. GoesWith v seat side) of_journal (pair_at change members entries slot in_step place (Some seat) (Some side) here there).1

    -- ---- the next request goes out

    module _ (plan : ChangePlan) (device : ℕ) (what : Ask) (a : IsAsked slot.course device what) (side : SideState) (there : slice_get slot.sides (device - 1) ≡ Some side) where
      sent_if : (request : Request) → ask_of request ≡ asked_in_fact side.resync what → (b : Bool)
          → AllHold change decided (with_pair slot device (sends_if b (opens (asked_in_fact side.resync what)) device slot.course (course.with_sent slot.course device) side request)).slot devices
      sent_if request is false = unmoved_holds (device - 1) side there
      sent_if request is true =
          stepped_holds (course.with_sent slot.course device) (device - 1) a.seat (asked_next slot.course.verdict a.seat) side (with_wire side (gone (opens (asked_in_fact side.resync what)) side.wire request)) a.here there
          (ap (λ o. (course.with_sent_at slot.course device o).seats) a.here)
          (λ r pair.
          subst (λ v. PairHolds change decided (asked_next v a.seat) (gone (opens (asked_in_fact side.resync what)) side.wire request) r) (sym of_journal)
          (turned_pair change a.seat side r what request decided (goes_at (device - 1) a.seat side a.here there) a.quiet (ap (λ v. next_ask v a.seat.stage) (sym of_journal) ∙ a.next) is pair))

      sent_request : (found : Option Request) → IfSome found (λ request. ask_of request ≡ asked_in_fact side.resync what)
          → AllHold change decided (with_pair slot device (sends_request (opens (asked_in_fact side.resync what)) device slot.course (course.with_sent slot.course device) side found)).slot devices
      sent_request None is = unmoved_holds (device - 1) side there
      sent_request (Some request) is = sent_if request is (may_go (opens (asked_in_fact side.resync what)) side.wire)

    pub sent_holds : (plan : ChangePlan) (device : ℕ) (what : Ask) → next_action slot.course ≡ Send device what → AllHold change decided (sends plan entries slot device what).slot devices
    sent_holds plan device what h =
        on_holds (sends_pair plan entries device what) device
        (λ side there.
        sent_request plan device what (asked slot.course device what h) side there (request_for plan entries slot.course.change device (asked_in_fact side.resync what))
        (asks_fit plan entries slot.course.change device (asked_in_fact side.resync what)))

    some_seat : (place : ℕ) (side : SideState) (seat : Option Seat) → slice_get slot.course.seats place ≡ seat → slice_get slot.sides place ≡ Some side → is_some seat ≡ true
    some_seat place side None here there = absurd (pair_at change members entries slot in_step place None (Some side) here there)
    some_seat place side (Some seat) here there = refl

    -- ---- a timer is set anew

    renewed_if : (device : ℕ) (seat : Seat) (side : SideState) → decided ≡ None → slice_get slot.course.seats (device - 1) ≡ Some seat → slice_get slot.sides (device - 1) ≡ Some side → seat.awaited ≡ None
        → is_acknowledged seat.stage ≡ true → (found : Option Request) → IfSome found (λ request. ask_of request ≡ ask.Renew)
        → AllHold change decided (with_pair slot device (sends_request false device slot.course (course.with_renewed slot.course device) side found)).slot devices
    renewed_if device seat side none here there quiet acked None is = unmoved_holds (device - 1) side there
    renewed_if device seat side none here there quiet acked (Some request) is = by_going (may_go false side.wire)
      where
        by_going : (b : Bool) → AllHold change decided (with_pair slot device (sends_if b false device slot.course (course.with_renewed slot.course device) side request)).slot devices
        by_going false = unmoved_holds (device - 1) side there
        by_going true =
            stepped_holds (course.with_renewed slot.course device) (device - 1) seat (renewed seat) side (with_wire side (gone false side.wire request)) here there
            (ap (λ o. (course.with_renewed_at slot.course device o).seats) here)
            (λ r pair.
            subst (λ v. PairHolds change v (renewed seat) (gone false side.wire request) r) (sym none)
            (renewed_pair change seat side r request (subst (λ v. GoesWith v seat side) none (goes_at (device - 1) seat side here there)) quiet acked is
            (subst (λ v. PairHolds change v seat side.wire r) none pair)))

    -- ---- a link breaks

    breaks_here : (device : ℕ) (side : SideState) (seat : Option Seat) → slice_get slot.course.seats (device - 1) ≡ seat → slice_get slot.sides (device - 1) ≡ Some side → (current : Option ℕ)
        → AllHold change decided (with_pair slot device (breaks_current slot.course side device current)).slot devices
    breaks_here device side seat here there None = unmoved_holds (device - 1) side there
    breaks_here device side None here there (Some number) = absurd (let g : false ≡ true = some_seat (device - 1) side None here there in cc)
    breaks_here device side (Some seat) here there (Some number) =
        stepped_holds (course.with_break slot.course device) (device - 1) seat (record seat { stage = broken_stage seat.stage; awaited = None }) side (cut_off (to_commit slot.course.verdict) side) here there
        (ap (λ o. (course.with_break_at slot.course device o).seats) here) (λ r pair. broken_pair change seat side.wire r decided pair)

    pub broken_holds : (device : ℕ) → AllHold change decided (breaks slot device).slot devices
    broken_holds device =
        on_holds (breaks_pair device) device (λ side there. breaks_here device side (slice_get slot.course.seats (device - 1)) refl there side.wire.current)

    -- ---- a reply is handled

    module _ (device : ℕ) (side : SideState) (seat : Seat) (here : slice_get slot.course.seats (device - 1) ≡ Some seat) (there : slice_get slot.sides (device - 1) ≡ Some side) (link : ℕ) (exchange : Exchange)
        (due_now : IsDue side.wire link exchange) where
      before : GoesWith decided seat side
      before = goes_at (device - 1) seat side here there

      plain_holds : (what : Ask) → seat.awaited ≡ Some what → is_resync (Some what) ≡ false
          → AllHold change decided (record { course = course.with_reply slot.course device exchange.reply; sides = slice_set slot.sides (device - 1) (record { wire = handled_at side.wire link (Some exchange); resync = side.resync }) }) devices
      plain_holds what awaited plain =
          stepped_holds (course.with_reply slot.course device exchange.reply) (device - 1) seat (record seat { stage = learnt slot.course.verdict seat.stage what exchange.reply; awaited = None }) side
          (record { wire = handled_at side.wire link (Some exchange); resync = side.resync }) here there
          (ap (λ c. c.seats) (ap (course.with_reply_at slot.course device exchange.reply) here ∙ ap (course.with_answer slot.course device exchange.reply seat) awaited))
          (λ r pair.
          subst (λ v. PairHolds change decided (record seat { stage = learnt v seat.stage what exchange.reply; awaited = None }) (handled_at side.wire link (Some exchange)) r) (sym of_journal)
          (handled_pair change seat side r link exchange due_now what awaited decided before plain pair))

      found_holds : seat.awaited ≡ Some ask.Resync → (v : Option Verdict) → decided ≡ v → (known : Option Bool) (next : ResyncState)
          → AllHold change decided (record {
            course = settled_by (course.with_reply slot.course device exchange.reply) device known;
            sides = slice_set slot.sides (device - 1) (record { wire = handled_at side.wire link (Some exchange); resync = next });
          }) devices
      found_holds awaited None e known next =
          absurd (let some : is_some decided ≡ true = has_verdict decided seat side before link exchange due_now awaited in let g : false ≡ true = sym (ap is_some e) ∙ some in cc)
      found_holds awaited (Some v) e known next =
          stepped_holds (settled_by (course.with_reply slot.course device exchange.reply) device known) (device - 1) seat (record seat { stage = found_stage known; awaited = None }) side
          (record { wire = handled_at side.wire link (Some exchange); resync = next }) here there
          (ap (λ c. c.seats) (found_course slot.course device exchange.reply seat here awaited (at_resync decided seat side before link exchange due_now awaited) known))
          (λ r pair.
          subst (λ d. PairHolds change d (record seat { stage = found_stage known; awaited = None }) (handled_at side.wire link (Some exchange)) r) (sym e)
          (resynced_pair change seat side r link exchange due_now v (found_stage known) (subst (λ d. PairHolds change d seat side.wire r) e pair)))

      hears_holds : (awaited : Option Ask) → seat.awaited ≡ awaited → (b : Bool) → is_resync awaited ≡ b
          → AllHold change decided (with_pair slot device (hears b slot.course side device (handled_at side.wire link (Some exchange)) exchange.reply)).slot devices
      hears_holds None e b n =
          absurd (let g : None ≡ Some (ask_of exchange.request) = sym (ap (option_map (asked_in_fact side.resync)) e) ∙ before.asked ∙ told_ask decided seat side before link exchange due_now in cc)
      hears_holds (Some what) e true n =
          found_holds (e ∙ ap Some (resync_alone what n)) decided refl (settled_in (resync_learnt side.resync.commit side.resync.stage exchange.reply)) (resync.with_reply side.resync exchange.reply)
      hears_holds (Some what) e false n = plain_holds what e n

    due_holds : (device link number : ℕ) (side : SideState) (found : Option Seat) → slice_get slot.course.seats (device - 1) ≡ found → slice_get slot.sides (device - 1) ≡ Some side → (told : Option Exchange)
        → due side.wire link number ≡ told → AllHold change decided (with_pair slot device (receives_due (awaits_resync found) slot.course side device (handled_at side.wire link told) told)).slot devices
    due_holds device link number side found here there None e = unmoved_holds (device - 1) side there
    due_holds device link number side None here there (Some exchange) e = absurd (let g : false ≡ true = some_seat (device - 1) side None here there in cc)
    due_holds device link number side (Some seat) here there (Some exchange) e =
        hears_holds device side seat here there link exchange (due_is side.wire link number exchange e) seat.awaited refl (is_resync seat.awaited) refl

    pub received_holds : (device link number : ℕ) → AllHold change decided (receives slot device link number).slot devices
    received_holds device link number =
        on_holds (receives_pair device link number) device
        (λ side there. due_holds device link number side (slice_get slot.course.seats (device - 1)) refl there (due side.wire link number) refl)

    -- ---- a device's side of a link ends

    wires_hold : (happens : WireState → WireState) → ((seat : Seat) (wire : WireState) (r : RecordedState Config Node) → PairHolds change decided seat wire r → PairHolds change decided seat (happens wire) r)
        → (device : ℕ) (found : Option SideState) → slice_get slot.sides (device - 1) ≡ found → (seat : Option Seat) → slice_get slot.course.seats (device - 1) ≡ seat
        → AllHold change decided (wires_on happens slot device found) devices
    wires_hold happens step device None there seat here = all
    wires_hold happens step device (Some side) there None here = absurd (let g : false ≡ true = some_seat (device - 1) side None here there in cc)
    wires_hold happens step device (Some side) there (Some seat) here =
        stepped_holds slot.course (device - 1) seat seat side (with_wire side (happens side.wire)) here there (sym (set_same slot.course.seats (device - 1) seat here)) (λ r pair. step seat side.wire r pair)

    pub lost_holds : (device link : ℕ) → AllHold change decided (wires_on (lost_wire link) slot device (slice_get slot.sides (device - 1))) devices
    lost_holds device link =
        wires_hold (lost_wire link) (λ seat wire r pair. closed_pair change decided seat wire r link pair) device (slice_get slot.sides (device - 1)) refl (slice_get slot.course.seats (device - 1)) refl

    pub restarted_holds : (device : ℕ) → AllHold change decided (wires_on restarted slot device (slice_get slot.sides (device - 1))) devices
    restarted_holds device =
        wires_hold restarted (λ seat wire r pair. restarted_pair change decided seat wire r pair) device (slice_get slot.sides (device - 1)) refl (slice_get slot.course.seats (device - 1)) refl

    -- ---- memory is lost

    begun_at : (first : Stage) (commit : Bool) (j : ℕ) (old : Option Seat) (side : Option SideState) (r : Option (RecordedState Config Node)) → slice_get slot.course.seats j ≡ old → slice_get slot.sides j ≡ side
        → ((seat : Seat) (one : SideState) (r : RecordedState Config Node) → side ≡ Some one → (mask_contains members (1 + j) ≡ true → seat.is_member ≡ true) → PairHolds change decided seat one.wire r
        → PairHolds change decided (seat_of members first (1 + j)) (broken one.wire) r)
        → HoldsAt change decided old side r → HoldsAt change decided (slice_get (seats_from members first 1 seat_count) j) (option_map (cut_off commit) side) r
    begun_at first commit j old side None here there step holds = tt
    begun_at first commit j old None (Some r) here there step holds = none_side (slice_get (seats_from members first 1 seat_count) j)
      where
        none_side : (seat : Option Seat) → HoldsAt change decided seat None (Some r)
        none_side None = tt
        none_side (Some seat) = tt
    begun_at first commit j None (Some side) (Some r) here there step holds = absurd (let g : false ≡ true = some_seat j side None here there in cc)
    begun_at first commit j (Some seat) (Some side) (Some r) here there step holds =
        let within : j < seat_count = subst (λ n. j < n) in_step.sides (slice_get_within slot.sides j side there) in
        let seated : IsSeated members (j + 1) seat = (pair_at change members entries slot in_step j (Some seat) (Some side) here there).0 in
        let same : 1 + j ≡ j + 1 = omega arith in
        subst (λ s. HoldsAt change decided s (Some (cut_off commit side)) (Some r)) (sym (seat_from members first 1 seat_count j within))
        (step seat side r refl (λ m. seated.member ∙ subst (λ d. mask_contains members d ≡ true) same m) holds)

    begun_hold : (first : Stage) (commit : Bool) (now : CourseState) → now.seats ≡ seats_from members first 1 seat_count
        → ((j : ℕ) (seat : Seat) (one : SideState) (r : RecordedState Config Node) → slice_get slot.sides j ≡ Some one → (mask_contains members (1 + j) ≡ true → seat.is_member ≡ true) → PairHolds change decided seat one.wire r
        → PairHolds change decided (seat_of members first (1 + j)) (broken one.wire) r)
        → AllHold change decided (record { course = now; sides = map (cut_off commit) slot.sides }) devices
    begun_hold first commit now seats step j =
        subst (λ s. HoldsAt change decided (slice_get s j) (slice_get (map (cut_off commit) slot.sides) j) (slice_get devices j)) (sym seats)
        (subst (λ s. HoldsAt change decided (slice_get (seats_from members first 1 seat_count) j) s (slice_get devices j)) (sym (slice_get-map (cut_off commit) slot.sides j))
        (begun_at first commit j (slice_get slot.course.seats j) (slice_get slot.sides j) (slice_get devices j) refl refl (step j) (all j)))

    pub forgotten_holds : (found : Option Verdict) → AllHold change decided (lost_memory slot members found) devices
    forgotten_holds found =
        begun_hold Resync (to_commit found) (course.recovered_course slot.course.change members found) refl
        (λ j seat one r there m pair. lost_pair change seat one.wire r decided members (1 + j) m pair)

    -- a manager that starts anew
    anew_by : (v : Option Verdict) (goes_on : Bool) → ((place : ℕ) (side : SideState) → slice_get slot.sides place ≡ Some side → goes_on ≡ false → decided ≡ None → side.wire.links ≡ [])
        → AllHold change decided (record {
          course = if goes_on then course.recovered_course change members v else course.new_course change members;
          sides = map (cut_off (to_commit v)) slot.sides;
        }) devices
    anew_by v true none =
        begun_hold Resync (to_commit v) (course.recovered_course change members v) refl (λ j seat one r there m pair. lost_pair change seat one.wire r decided members (1 + j) m pair)
    anew_by v false none =
        begun_hold (Live 0) (to_commit v) (course.new_course change members) refl
        (λ j seat one r there m pair. anew_pair change seat one.wire r decided members (1 + j) m (none j one there refl) pair)

    pub anew_holds : ((place : ℕ) (side : SideState) → slice_get slot.sides place ≡ Some side → (is_started change entries && not (is_ended_in change entries)) ≡ false → decided ≡ None → side.wire.links ≡ [])
        → AllHold change decided (starts_anew entries change members slot) devices
    anew_holds none = anew_by (verdict_in change entries) (is_started change entries && not (is_ended_in change entries)) none

    -- ---- a timer is set anew, where it may be

    none_is : (v : Option Verdict) → is_none v ≡ true → v ≡ None
    none_is None h = refl
    none_is (Some v) h = never h

    no_ask : (awaited : Option Ask) → is_none awaited ≡ true → awaited ≡ None
    no_ask None h = refl
    no_ask (Some what) h = never h

    renewed_by : (plan : ChangePlan) (device : ℕ) (seat : Option Seat) (side : SideState) → slice_get slot.course.seats (device - 1) ≡ seat → slice_get slot.sides (device - 1) ≡ Some side → (b : Bool)
        → (is_none slot.course.verdict && (is_none slot.course.trouble && may_renew_seat seat)) ≡ b → AllHold change decided (with_pair slot device (renews_if b plan entries slot.course side device)).slot devices
    renewed_by plan device seat side here there false may = unmoved_holds (device - 1) side there
    renewed_by plan device None side here there true may = absurd (let g : false ≡ true = some_seat (device - 1) side None here there in cc)
    renewed_by plan device (Some seat) side here there true may =
        let undecided = both (is_none slot.course.verdict) _ may in
        let calm = both (is_none slot.course.trouble) _ undecided.1 in
        let member = both seat.is_member _ calm.1 in
        let quiet = both (is_none seat.awaited) (is_acknowledged seat.stage) member.1 in
        renewed_if device seat side (sym of_journal ∙ none_is slot.course.verdict undecided.0) here there (no_ask seat.awaited quiet.0) quiet.1
        (request_for plan entries slot.course.change device ask.Renew) (asks_fit plan entries slot.course.change device ask.Renew)

    pub renewed_holds : (plan : ChangePlan) (device : ℕ) → AllHold change decided (renews plan entries slot device).slot devices
    renewed_holds plan device =
        on_holds (renews_pair plan entries device) device
        (λ side there. renewed_by plan device (slice_get slot.course.seats (device - 1)) side refl there (course.may_renew slot.course device) refl)

-- ---- the verdict falls

module _ {Config Node : Type 0} (change : ℕ) (devices : List (RecordedState Config Node)) (slot : SlotState) (v : Verdict) where
  decided_at : (seat : Option Seat) (side : Option SideState) (r : Option (RecordedState Config Node))
      → ((one : Seat) → seat ≡ Some one → to_commit (Some v) ≡ true → one.is_member ≡ true → is_acknowledged one.stage ≡ true)
      → HoldsAt change None seat side r → HoldsAt change (Some v) (option_map (decided_seat v) seat) (option_map (anew (is_commit v)) side) r
  decided_at seat side None acked holds = tt
  decided_at None side (Some r) acked holds = tt
  decided_at (Some seat) None (Some r) acked holds = tt
  decided_at (Some seat) (Some side) (Some r) acked holds = decided_pair change seat side.wire r v (acked seat refl) holds

  pub decided_holds : ((place : ℕ) (seat : Seat) → slice_get slot.course.seats place ≡ Some seat → to_commit (Some v) ≡ true → seat.is_member ≡ true → is_acknowledged seat.stage ≡ true)
      → AllHold change None slot devices → AllHold change (Some v) (decided slot v) devices
  decided_holds acked all j =
      subst (λ s. HoldsAt change (Some v) s (slice_get (map (anew (is_commit v)) slot.sides) j) (slice_get devices j)) (sym (slice_get-map (decided_seat v) slot.course.seats j))
      (subst (λ s. HoldsAt change (Some v) (option_map (decided_seat v) (slice_get slot.course.seats j)) s (slice_get devices j)) (sym (slice_get-map (anew (is_commit v)) slot.sides j))
      (decided_at (slice_get slot.course.seats j) (slice_get slot.sides j) (slice_get devices j) (acked j) (all j)))
