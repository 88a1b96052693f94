-- What is kept of each device of a change set, at each step of the manager.
use Rattle.std.proofs.Common.{ℕ, ◌≡◌, map, ◌∙◌, zero, suc, ◌+◌, ◌-◌, Bool, true, false, not, ◌&&◌, List, Option, Some, None, IfSome, is_some, slice_get, slice_set, option_map, refl, sym, ap, subst, if◌then◌else◌}
use Rattle.std.proofs.lemmas.Option.{slice_get-map}
use Rattle.nm_proto.specs.declared.ask.Ask.{Ask}
use Rattle.nm_proto.specs.declared.ask.Ask.TheVariants as ask
use Rattle.nm_proto.specs.declared.message.Request.{Request}
use Rattle.nm_proto.specs.declared.journal.Verdict.{Verdict}
use Rattle.nm_proto.specs.declared.journal.Entry.{Entry}
use Rattle.nm_proto.specs.declared.plan.ChangePlan.{ChangePlan}
use Rattle.nm_recovery.specs.Recovery.{is_started, is_ended_in, verdict_in}
use Rattle.nm_decider_stage.specs.declared.stage.Stage.{Stage}
use Rattle.nm_decider_stage.specs.declared.stage.Stage.TheVariants.{Live, Resync}
use Rattle.nm_decider_stage.specs.Stages.{learnt, broken_stage}
use Rattle.nm_decider.specs.declared.course.NextAction.TheVariants.{Send}
use Rattle.nm_decider.specs.declared.seat.Seat.{Seat}
use Rattle.nm_decider.specs.Course as course
use Rattle.nm_decider.specs.Course.{CourseState, asked_next, renewed, next_action, noted, seats_from, seat_count, decided_seat}
use Rattle.nm_decider.specs.Rightly.{IsAsked}
use Rattle.nm_decider.proofs.Actions.{asked}
use Rattle.nm_resync.specs.Resync.{settled_in, resync_learnt}
use Rattle.nm_resync.specs.Resync as resync
use Rattle.nm_wire.specs.declared.link.Exchange.{Exchange}
use Rattle.nm_wire.specs.Asks.{ask_of}
use Rattle.nm_wire.specs.Wire.{WireState, handled_at, due}
use Rattle.nm_manager.specs.Requests.{request_for}
use Rattle.nm_manager.proofs.Kept.{asks_fit}
use Rattle.nm_manager.proofs.Reach.{side_reached}
use Rattle.nm_manager.specs.Manager.{starts_anew}
use Rattle.nm_manager.specs.Slot.{SideState, SlotState, PairStep, SlotStep, with_pair, with_wire, asked_in_fact, opens, may_go, gone, sends_if, sends_request, sends, renews_if, renews, breaks_current, breaks, cut_off, to_commit, is_commit, anew, decided, lost_memory, is_resync, awaits_resync, settled_by, hears, receives_due, receives, wires_on, on_side, sends_pair, renews_pair, receives_pair, breaks_pair}
use Rattle.nm_safety.specs.Step.{GoesWith, IsInStep}
use Rattle.nm_safety.proofs.Places.{both_set, set_same}
use Rattle.nm_safety.proofs.Wires.{IsDue, due_is}
use Rattle.nm_safety.proofs.Tables.{found_stage}
use Rattle.nm_safety.proofs.Pairs.{at_resync, told_ask}
use Rattle.nm_safety.proofs.PairSteps.{pair_at, found_course, resync_alone}
use Rattle.nm_safety.proofs.Managed.{others_stay}
use Rattle.nm_safety.specs.Pairs.{AllPairs, IsPair, OfPair, PairAt}

module _ (Q : OfPair) (change members : ℕ) (entries : List Entry) (slot : SlotState) (in_step : IsInStep change members entries slot)
    (all : AllPairs Q slot.course.verdict slot) where
  abbrev v : Option Verdict
  v = slot.course.verdict

  -- under the verdict of the course
  abbrev Known : SlotState → Type 0
  Known now = AllPairs Q now.course.verdict now

  abbrev Pair : ℕ → Seat → SideState → Type 0
  Pair place seat side = IsPair members slot place seat side

  pub known_at : (place : ℕ) (seat : Seat) (side : SideState) → slice_get slot.course.seats place ≡ Some seat
      → slice_get slot.sides place ≡ Some side → Q place v seat side
  known_at place seat side here there =
      subst (λ s. PairAt Q place v (Some seat) s) there (subst (λ s. PairAt Q place v s (slice_get slot.sides place)) here (all place))

  abbrev pair_there : (place : ℕ) (seat : Seat) (side : SideState) → slice_get slot.course.seats place ≡ Some seat
      → slice_get slot.sides place ≡ Some side → Pair place seat side
  pair_there place seat side here there =
      let both = pair_at change members entries slot in_step place (Some seat) (Some side) here there in
      record { here = here; there = there; seated = both.0; goes = both.1 }

  -- one seat and its side have changed
  stepped : (now : CourseState) (place : ℕ) (seat new_seat : Seat) (side new_side : SideState)
      → slice_get slot.course.seats place ≡ Some seat → slice_get slot.sides place ≡ Some side → now.verdict ≡ v
      → now.seats ≡ slice_set slot.course.seats place new_seat → Q place v new_seat new_side
      → Known (record { course = now; sides = slice_set slot.sides place new_side })
  stepped now place seat new_seat side new_side here there same seats known j =
      subst (λ d. PairAt Q j d (slice_get now.seats j) (slice_get (slice_set slot.sides place new_side) j)) (sym same)
      (subst (λ s. PairAt Q j v (slice_get s j) (slice_get (slice_set slot.sides place new_side) j)) (sym seats)
      (both_set (λ k one other. PairAt Q k v one other) slot.course.seats slot.sides place seat new_seat side new_side here there all known j))

  -- nothing has changed
  unmoved : (place : ℕ) (side : SideState) → slice_get slot.sides place ≡ Some side
      → Known (record { course = slot.course; sides = slice_set slot.sides place side })
  unmoved place side there =
      subst (λ sides. Known (record { course = slot.course; sides = sides })) (sym (set_same slot.sides place side there)) all

  some_seat : (place : ℕ) (side : SideState) (seat : Option Seat) → slice_get slot.course.seats place ≡ seat
      → slice_get slot.sides place ≡ Some side → is_some seat ≡ true
  some_seat place side None here there = absurd (pair_at change members entries slot in_step place None (Some side) here there)
  some_seat place side (Some seat) here there = refl

  -- a step for a device, where it has a side
  on_pairs : (step : CourseState → SideState → PairStep) (device : ℕ)
      → ((side : SideState) → slice_get slot.sides (device - 1) ≡ Some side → Known (with_pair slot device (step slot.course side)).slot)
      → Known (on_side step slot device (slice_get slot.sides (device - 1))).slot
  on_pairs step device = side_reached step slot device (λ (done : SlotStep). Known done.slot) all

  -- ---- the next request goes out

  module _ (device : ℕ) (what : Ask)
      (next : (a : IsAsked slot.course device what) (side : SideState) → Pair (device - 1) a.seat side → (request : Request)
      → ask_of request ≡ asked_in_fact side.resync what → may_go (opens (asked_in_fact side.resync what)) side.wire ≡ true
      → Q (device - 1) v a.seat side
      → Q (device - 1) v (asked_next v a.seat) (with_wire side (gone (opens (asked_in_fact side.resync what)) side.wire request))) where
    module _ (a : IsAsked slot.course device what) (side : SideState) (there : slice_get slot.sides (device - 1) ≡ Some side) where
      abbrev new : Bool
      new = opens (asked_in_fact side.resync what)

      sent_course : course.with_sent slot.course device ≡ course.with_seat slot.course device (asked_next v a.seat)
      sent_course = ap (course.with_sent_at slot.course device) a.here

      sent_if : (request : Request) → ask_of request ≡ asked_in_fact side.resync what → (b : Bool) → may_go new side.wire ≡ b
          → Known (with_pair slot device (sends_if b new device slot.course (course.with_sent slot.course device) side request)).slot
      sent_if request is false e = unmoved (device - 1) side there
      sent_if request is true e =
          stepped (course.with_sent slot.course device) (device - 1) a.seat (asked_next v a.seat) side
          (with_wire side (gone new side.wire request)) a.here there (ap (λ c. c.verdict) sent_course) (ap (λ c. c.seats) sent_course)
          (next a side (pair_there (device - 1) a.seat side a.here there) request is e (known_at (device - 1) a.seat side a.here there))

      sent_request : (found : Option Request) → IfSome found (λ request. ask_of request ≡ asked_in_fact side.resync what)
          → Known (with_pair slot device (sends_request new device slot.course (course.with_sent slot.course device) side found)).slot
      sent_request None is = unmoved (device - 1) side there
      sent_request (Some request) is = sent_if request is (may_go new side.wire) refl

    pub sent_pairs : (plan : ChangePlan) → next_action slot.course ≡ Send device what → Known (sends plan entries slot device what).slot
    sent_pairs plan h =
        on_pairs (sends_pair plan entries device what) device
        (λ side there.
        sent_request (asked slot.course device what h) side there (request_for plan entries slot.course.change device (asked_in_fact side.resync what))
        (asks_fit plan entries slot.course.change device (asked_in_fact side.resync what)))

  -- ---- a timer is set anew

  module _ (device : ℕ)
      (again : (seat : Seat) (side : SideState) → Pair (device - 1) seat side → (request : Request) → ask_of request ≡ ask.Renew
      → may_go false side.wire ≡ true → Q (device - 1) v seat side
      → Q (device - 1) v (renewed seat) (with_wire side (gone false side.wire request))) where
    renewed_if : (seat : Seat) (side : SideState) → slice_get slot.course.seats (device - 1) ≡ Some seat
        → slice_get slot.sides (device - 1) ≡ Some side → (request : Request) → ask_of request ≡ ask.Renew → (b : Bool) → may_go false side.wire ≡ b
        → Known (with_pair slot device (sends_if b false device slot.course (course.with_renewed slot.course device) side request)).slot
    renewed_if seat side here there request is false e = unmoved (device - 1) side there
    renewed_if seat side here there request is true e =
        let same : course.with_renewed slot.course device ≡ course.with_seat slot.course device (renewed seat) =
        ap (course.with_renewed_at slot.course device) here in
        stepped (course.with_renewed slot.course device) (device - 1) seat (renewed seat) side
        (with_wire side (gone false side.wire request)) here there (ap (λ c. c.verdict) same) (ap (λ c. c.seats) same)
        (again seat side (pair_there (device - 1) seat side here there) request is e (known_at (device - 1) seat side here there))

    renewed_request : (seat : Option Seat) (side : SideState) → slice_get slot.course.seats (device - 1) ≡ seat
        → slice_get slot.sides (device - 1) ≡ Some side → (found : Option Request) → IfSome found (λ request. ask_of request ≡ ask.Renew)
        → Known (with_pair slot device (sends_request false device slot.course (course.with_renewed slot.course device) side found)).slot
    renewed_request seat side here there None is = unmoved (device - 1) side there
    renewed_request None side here there (Some request) is =
        absurd (let g : false ≡ true = some_seat (device - 1) side None here there in cc)
    renewed_request (Some seat) side here there (Some request) is =
        renewed_if seat side here there request is (may_go false side.wire) refl

    renewed_by : (plan : ChangePlan) (side : SideState) → slice_get slot.sides (device - 1) ≡ Some side → (b : Bool)
        → Known (with_pair slot device (renews_if b plan entries slot.course side device)).slot
    renewed_by plan side there false = unmoved (device - 1) side there
    renewed_by plan side there true =
        renewed_request (slice_get slot.course.seats (device - 1)) side refl there
        (request_for plan entries slot.course.change device ask.Renew) (asks_fit plan entries slot.course.change device ask.Renew)

    pub renewed_pairs : (plan : ChangePlan) → Known (renews plan entries slot device).slot
    renewed_pairs plan = on_pairs (renews_pair plan entries device) device (λ side there. renewed_by plan side there (course.may_renew slot.course device))

  -- ---- a link breaks

  module _ (device : ℕ)
      (cut : (seat : Seat) (side : SideState) → Pair (device - 1) seat side → Q (device - 1) v seat side
      → Q (device - 1) v (record seat { stage = broken_stage seat.stage; awaited = None }) (cut_off (to_commit v) side)) where
    breaks_here : (side : SideState) (seat : Option Seat) → slice_get slot.course.seats (device - 1) ≡ seat
        → slice_get slot.sides (device - 1) ≡ Some side → (current : Option ℕ)
        → Known (with_pair slot device (breaks_current slot.course side device current)).slot
    breaks_here side seat here there None = unmoved (device - 1) side there
    breaks_here side None here there (Some number) =
        absurd (let g : false ≡ true = some_seat (device - 1) side None here there in cc)
    breaks_here side (Some seat) here there (Some number) =
        let now : Seat = record seat { stage = broken_stage seat.stage; awaited = None } in
        let is : course.with_break slot.course device ≡ course.with_break_at slot.course device (Some seat) =
        ap (course.with_break_at slot.course device) here in
        stepped (course.with_break slot.course device) (device - 1) seat now side (cut_off (to_commit v) side) here there
        (ap (λ c. c.verdict) is) (ap (λ c. c.seats) is)
        (cut seat side (pair_there (device - 1) seat side here there) (known_at (device - 1) seat side here there))

    pub broken_pairs : Known (breaks slot device).slot
    broken_pairs =
        on_pairs (breaks_pair device) device (λ side there. breaks_here side (slice_get slot.course.seats (device - 1)) refl there side.wire.current)

  -- ---- a reply is handled

  module _ (device link number : ℕ)
      (answered : (seat : Seat) (side : SideState) → Pair (device - 1) seat side → (exchange : Exchange) → IsDue side.wire link exchange → (what : Ask)
      → seat.awaited ≡ Some what → is_resync (Some what) ≡ false → Q (device - 1) v seat side
      → Q (device - 1) v (record seat { stage = learnt v seat.stage what exchange.reply; awaited = None })
      (record { wire = handled_at side.wire link (Some exchange); resync = side.resync }))
      (resynced : (seat : Seat) (side : SideState) → Pair (device - 1) seat side → (exchange : Exchange) → IsDue side.wire link exchange
      → seat.awaited ≡ Some ask.Resync → Q (device - 1) v seat side
      → Q (device - 1) v (record seat { stage = found_stage (settled_in (resync_learnt side.resync.commit side.resync.stage exchange.reply)); awaited = None })
      (record { wire = handled_at side.wire link (Some exchange); resync = resync.with_reply side.resync exchange.reply })) where
    module _ (side : SideState) (seat : Seat) (here : slice_get slot.course.seats (device - 1) ≡ Some seat)
        (there : slice_get slot.sides (device - 1) ≡ Some side) (exchange : Exchange) (due_now : IsDue side.wire link exchange) where
      before : GoesWith v seat side
      before = (pair_there (device - 1) seat side here there).goes

      plain_knows : (what : Ask) → seat.awaited ≡ Some what → is_resync (Some what) ≡ false
          → Known (record {
            course = course.with_reply slot.course device exchange.reply;
            sides = slice_set slot.sides
                (device - 1) (record { wire = handled_at side.wire link (Some exchange); resync = side.resync });
          })
      plain_knows what awaited plain =
          let is : course.with_reply slot.course device exchange.reply
          ≡ course.with_answer slot.course device exchange.reply seat (Some what) =
          ap (course.with_reply_at slot.course device exchange.reply) here
          ∙ ap (course.with_answer slot.course device exchange.reply seat) awaited in
          stepped (course.with_reply slot.course device exchange.reply) (device - 1) seat
          (record seat { stage = learnt v seat.stage what exchange.reply; awaited = None }) side
          (record { wire = handled_at side.wire link (Some exchange); resync = side.resync }) here there
          (ap (λ c. c.verdict) is) (ap (λ c. c.seats) is)
          (answered seat side (pair_there (device - 1) seat side here there) exchange due_now what awaited plain (known_at (device - 1) seat side here there))

      found_knows : seat.awaited ≡ Some ask.Resync
          → Known (record {
            course = settled_by (course.with_reply slot.course device exchange.reply) device
                (settled_in (resync_learnt side.resync.commit side.resync.stage exchange.reply));
            sides = slice_set slot.sides (device - 1)
                (record { wire = handled_at side.wire link (Some exchange); resync = resync.with_reply side.resync exchange.reply });
          })
      found_knows awaited =
          let found : Option Bool = settled_in (resync_learnt side.resync.commit side.resync.stage exchange.reply) in
          let is : settled_by (course.with_reply slot.course device exchange.reply) device found
          ≡ record (course.with_seat slot.course device (record seat { stage = found_stage found; awaited = None })) {
            trouble = noted v slot.course.trouble None;
          } = found_course slot.course device exchange.reply seat here awaited (at_resync v seat side before link exchange due_now awaited)
          found in
          stepped (settled_by (course.with_reply slot.course device exchange.reply) device found) (device - 1) seat
          (record seat { stage = found_stage found; awaited = None }) side
          (record { wire = handled_at side.wire link (Some exchange); resync = resync.with_reply side.resync exchange.reply }) here there
          (ap (λ c. c.verdict) is) (ap (λ c. c.seats) is)
          (resynced seat side (pair_there (device - 1) seat side here there) exchange due_now awaited (known_at (device - 1) seat side here there))

      hears_knows : (awaited : Option Ask) → seat.awaited ≡ awaited → (b : Bool) → is_resync awaited ≡ b
          → Known (with_pair slot device (hears b slot.course side device (handled_at side.wire link (Some exchange)) exchange.reply)).slot
      hears_knows None e b r =
          absurd (let g : None ≡ Some (ask_of exchange.request) = sym (ap (option_map (asked_in_fact side.resync)) e) ∙ before.asked
          ∙ told_ask v seat side before link exchange due_now in cc)
      hears_knows (Some what) e true r = found_knows (e ∙ ap Some (resync_alone what r))
      hears_knows (Some what) e false r = plain_knows what e r

    due_knows : (side : SideState) (found : Option Seat) → slice_get slot.course.seats (device - 1) ≡ found
        → slice_get slot.sides (device - 1) ≡ Some side → (told : Option Exchange) → due side.wire link number ≡ told
        → Known (with_pair slot device (receives_due (awaits_resync found) slot.course side device (handled_at side.wire link told) told)).slot
    due_knows side found here there None e = unmoved (device - 1) side there
    due_knows side None here there (Some exchange) e =
        absurd (let g : false ≡ true = some_seat (device - 1) side None here there in cc)
    due_knows side (Some seat) here there (Some exchange) e =
        hears_knows side seat here there exchange (due_is side.wire link number exchange e) seat.awaited refl (is_resync seat.awaited) refl

    pub received_pairs : Known (receives slot device link number).slot
    received_pairs =
        on_pairs (receives_pair device link number) device
        (λ side there. due_knows side (slice_get slot.course.seats (device - 1)) refl there (due side.wire link number) refl)

-- ---- sides of links end

module _ (Q : OfPair) (slot : SlotState) (all : AllPairs Q slot.course.verdict slot) where
  module _ (happens : WireState → WireState) (device : ℕ)
      (step : (seat : Seat) (side : SideState) → Q (device - 1) slot.course.verdict seat side
      → Q (device - 1) slot.course.verdict seat (with_wire side (happens side.wire))) where
    side_ends : (seat : Option Seat) (side : SideState) → PairAt Q (device - 1) slot.course.verdict seat (Some side)
        → PairAt Q (device - 1) slot.course.verdict seat (Some (with_wire side (happens side.wire)))
    side_ends None side k = tt
    side_ends (Some seat) side k = step seat side k

    sides_end : (found : Option SideState) → slice_get slot.sides (device - 1) ≡ found
        → AllPairs Q (wires_on happens slot device found).course.verdict (wires_on happens slot device found)
    sides_end None there = all
    sides_end (Some side) there =
        others_stay (λ j o. PairAt Q j slot.course.verdict (slice_get slot.course.seats j) o) slot.sides (device - 1) side
        (with_wire side (happens side.wire)) there
        (side_ends (slice_get slot.course.seats (device - 1)) side
        (subst (PairAt Q (device - 1) slot.course.verdict (slice_get slot.course.seats (device - 1))) there (all (device - 1)))) (λ j ne. all j)

    -- what happens to all wires of one device
    pub wires_pairs : AllPairs Q (wires_on happens slot device (slice_get slot.sides (device - 1))).course.verdict
        (wires_on happens slot device (slice_get slot.sides (device - 1)))
    wires_pairs = sides_end (slice_get slot.sides (device - 1)) refl

-- ---- the verdict falls

module _ (Q : OfPair) (slot : SlotState) (v : Verdict) (before : Option Verdict)
    (falls : (place : ℕ) (seat : Seat) (side : SideState) → slice_get slot.course.seats place ≡ Some seat → slice_get slot.sides place ≡ Some side
    → Q place before seat side → Q place (Some v) (decided_seat v seat) (anew (is_commit v) side)) where
  decided_at : (place : ℕ) (seat : Option Seat) (side : Option SideState) → slice_get slot.course.seats place ≡ seat → slice_get slot.sides place ≡ side
      → PairAt Q place before seat side → PairAt Q place (Some v) (option_map (decided_seat v) seat) (option_map (anew (is_commit v)) side)
  decided_at place None side here there k = tt
  decided_at place (Some seat) None here there k = tt
  decided_at place (Some seat) (Some side) here there k = falls place seat side here there k

  pub decided_pairs : AllPairs Q before slot → AllPairs Q (Some v) (decided slot v)
  decided_pairs all j =
      subst (λ s. PairAt Q j (Some v) s (slice_get (map (anew (is_commit v)) slot.sides) j))
      (sym (slice_get-map (decided_seat v) slot.course.seats j))
      (subst (λ s. PairAt Q j (Some v) (option_map (decided_seat v) (slice_get slot.course.seats j)) s)
      (sym (slice_get-map (anew (is_commit v)) slot.sides j))
      (decided_at j (slice_get slot.course.seats j) (slice_get slot.sides j) refl refl (all j)))

-- ---- memory is lost

module _ (Q : OfPair) (members : ℕ) (sides : List SideState) (commit : Bool) where
  module _ (first : Stage) (decided : Option Verdict)
      (begins : (place : ℕ) (seat : Seat) (side : SideState) → seat.stage ≡ first → slice_get sides place ≡ Some side → Q place decided seat (cut_off commit side)) where
    cut_at : (place : ℕ) (seat : Option Seat) (side : Option SideState) → slice_get sides place ≡ side → IfSome seat (λ one. one.stage ≡ first)
        → PairAt Q place decided seat (option_map (cut_off commit) side)
    cut_at place None side there stage = tt
    cut_at place (Some seat) None there stage = tt
    cut_at place (Some seat) (Some side) there stage = begins place seat side stage there

    seats_first : (device count j : ℕ) → IfSome (slice_get (seats_from members first device count) j) (λ one. one.stage ≡ first)
    unfolding seats_from
    seats_first device zero j = tt
    seats_first device (suc count) zero = refl
    seats_first device (suc count) (suc j) = seats_first (device + 1) count j

    -- each seat stands at this stage, and no link is current
    pub begun_pairs : (now : CourseState) → now.verdict ≡ decided → now.seats ≡ seats_from members first 1 seat_count
        → AllPairs Q now.verdict (record { course = now; sides = map (cut_off commit) sides })
    begun_pairs now same seats j =
        subst (λ d. PairAt Q j d (slice_get now.seats j) (slice_get (map (cut_off commit) sides) j)) (sym same)
        (subst (λ s. PairAt Q j decided (slice_get s j) (slice_get (map (cut_off commit) sides) j)) (sym seats)
        (subst (PairAt Q j decided (slice_get (seats_from members first 1 seat_count) j)) (sym (slice_get-map (cut_off commit) sides j))
        (cut_at j (slice_get (seats_from members first 1 seat_count) j) (slice_get sides j) refl (seats_first 1 seat_count j))))

-- of one change set, and of each where the manager starts anew
module _ (Q : OfPair) (slot : SlotState) (members : ℕ) (found : Option Verdict)
    (begins : (place : ℕ) (seat : Seat) (side : SideState) → seat.stage ≡ Resync → slice_get slot.sides place ≡ Some side
    → Q place found seat (cut_off (to_commit found) side)) where
  pub forgotten_pairs : AllPairs Q found (lost_memory slot members found)
  forgotten_pairs =
      begun_pairs Q members slot.sides (to_commit found) Resync found begins (course.recovered_course slot.course.change members found) refl refl

module _ (Q : OfPair) (slot : SlotState) (entries : List Entry) (change members : ℕ)
    (begins : (place : ℕ) (seat : Seat) (side : SideState) → seat.stage ≡ Resync → slice_get slot.sides place ≡ Some side
    → Q place (verdict_in change entries) seat (cut_off (to_commit (verdict_in change entries)) side))
    (begins_first : (place : ℕ) (seat : Seat) (side : SideState) → seat.stage ≡ Live 0 → slice_get slot.sides place ≡ Some side
    → Q place None seat (cut_off (to_commit (verdict_in change entries)) side)) where
  abbrev found : Option Verdict
  found = verdict_in change entries

  anew_by : (goes_on : Bool)
      → AllPairs Q (if goes_on then course.recovered_course change members found else course.new_course change members).verdict (record {
        course = if goes_on then course.recovered_course change members found else course.new_course change members;
        sides = map (cut_off (to_commit found)) slot.sides;
      })
  anew_by true = begun_pairs Q members slot.sides (to_commit found) Resync found begins (course.recovered_course change members found) refl refl
  anew_by false = begun_pairs Q members slot.sides (to_commit found) (Live 0) None begins_first (course.new_course change members) refl refl

  pub anew_pairs : AllPairs Q (starts_anew entries change members slot).course.verdict (starts_anew entries change members slot)
  anew_pairs = anew_by (is_started change entries && not (is_ended_in change entries))

-- ---- something else is kept of each

module _ (P Q : OfPair) (before after : Option Verdict) (slot : SlotState)
    (step : (place : ℕ) (seat : Seat) (side : SideState) → slice_get slot.course.seats place ≡ Some seat → slice_get slot.sides place ≡ Some side
    → P place before seat side → Q place after seat side) where
  other_at : (place : ℕ) (seat : Option Seat) (side : Option SideState) → slice_get slot.course.seats place ≡ seat → slice_get slot.sides place ≡ side
      → PairAt P place before seat side → PairAt Q place after seat side
  other_at place None side here there k = tt
  other_at place (Some seat) None here there k = tt
  other_at place (Some seat) (Some side) here there k = step place seat side here there k

  pub pairs_map : AllPairs P before slot → AllPairs Q after slot
  pairs_map all j = other_at j (slice_get slot.course.seats j) (slice_get slot.sides j) refl refl (all j)
