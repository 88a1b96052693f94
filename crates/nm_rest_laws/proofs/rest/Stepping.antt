-- Each kind of step that a drain takes for a change set at a device.
use Rattle.std.proofs.Common.{◌≡◌, ◌∙◌, inl, ℕ, zero, suc, ◌+◌, ◌-◌, ◌*◌, ◌≤◌, ◌==◌, Bool, true, false, cond, not, ◌&&◌, List, [], ◌∷◌, Option, Some, None, IfSome, option_map, option_and_then, slice_get, slice_set, refl, sym, ap, subst, arith}
use Rattle.std.proofs.lemmas.Option.{none-some, same_Some}
use Rattle.nm_proto.specs.declared.ask.Ask.{Ask}
use Rattle.nm_proto.specs.declared.ask.Ask.TheVariants as ask
use Rattle.nm_proto.specs.declared.journal.Verdict.{Verdict}
use Rattle.nm_proto.specs.Content.{Meaning}
use Rattle.nm_stores.specs.Stores.{is_modified}
use Rattle.nm_history.specs.History.{RecordedState}
use Rattle.nm_decider_stage.specs.declared.stage.Stage.{Stage}
use Rattle.nm_decider_stage.specs.declared.stage.Stage.TheVariants.{Resync}
use Rattle.nm_decider_stage.specs.Stages.{broken_stage, learnt}
use Rattle.nm_decider.specs.declared.seat.Seat.{Seat}
use Rattle.nm_decider.specs.Course as course
use Rattle.nm_decider.specs.Course.{CourseState}
use Rattle.nm_resync.specs.Resync as resync
use Rattle.nm_resync.specs.Resync.{ResyncState, fresh_resync, settled_in, resync_learnt}
use Rattle.nm_wire.specs.declared.link.Exchange.{Exchange}
use Rattle.nm_wire.specs.declared.link.Way.{Way}
use Rattle.nm_wire.specs.declared.link.Way.TheVariants.{Quiet, Asked, Told}
use Rattle.nm_wire.specs.Asks.{ask_of}
use Rattle.nm_wire.specs.Link.{LinkState, session_of, handled_on, handled_by, ends}
use Rattle.nm_wire.specs.Wire.{WireState, link_at, current_link, handled_at, due, changed}
use Rattle.nm_manager.specs.Slot.{SideState, SlotState, with_pair, asked_in_fact, is_resync, awaits_resync, receives_due, breaks_current, cut_off, to_commit, on_side, receives_pair, breaks_pair}
use Rattle.nm_manager.specs.Manager.{ManagerState, received, on_slot}
use Rattle.nm_world.specs.World.{Setting, CoreState, manager_in, breaking, answering, is_session_open}
use Rattle.nm_safety.specs.Step.{GoesWith, current_ask}
use Rattle.nm_safety.proofs.Links.{did_handled}
use Rattle.nm_safety.proofs.Places.{set_same}
use Rattle.nm_safety.proofs.Tables.{found_stage}
use Rattle.nm_safety.proofs.Wires.{IsDue, due_is, current_handled, handled_quiet}
use Rattle.nm_safety.proofs.Pairs.{told_ask, at_resync}
use Rattle.nm_safety.proofs.PairSteps.{found_course, resync_alone}
use Rattle.nm_safety.proofs.Gone.{not_zero}
use Rattle.nm_safety.proofs.Lists.{some_is}
use Rattle.nm_rest_laws.specs.Steady.{IsTrue, IsTrueBy, IsSteady}
use Rattle.nm_rest_laws.proofs.rest.Measure.{left, told_left, settled_stage, stage_then, resync_then, will_end, if_stranded, is_stranded_at, is_held, quiet_rank, way_rank, link_rank}
use Rattle.nm_rest_laws.proofs.rest.Closer.{set_relates}
use Rattle.nm_rest_laws.proofs.rest.Ranks.{broken_less}
use Rattle.nm_rest_laws.proofs.rest.Calm.{IsOpenAt, AllCurrent}
use Rattle.nm_rest_laws.proofs.rest.PairSteps.{IsPairStep}

set_none_at : {A : Type 0} (xs : List A) (i : ℕ) (x : A) (j : ℕ) → slice_get xs j ≡ None → slice_get (slice_set xs i x) j ≡ None
set_none_at [] i x j e = e
set_none_at (y ∷ xs) zero x zero e = absurd (none-some y (sym e))
set_none_at (y ∷ xs) zero x (suc j) e = e
set_none_at (y ∷ xs) (suc i) x zero e = e
set_none_at (y ∷ xs) (suc i) x (suc j) e = set_none_at xs i x j e

-- ---- a link breaks

module _ {Config TheEdit Node : Type 0} (m : Meaning Config TheEdit Node) (setting : Setting TheEdit) (w : CoreState Config Node) (change device : ℕ) (slot : SlotState) (there : slice_get w.slots (change - 1) ≡ Some slot)
    (seat : Seat) (here : slice_get slot.course.seats (device - 1) ≡ Some seat) (side : SideState) (at : slice_get slot.sides (device - 1) ≡ Some side) (r : RecordedState Config Node) (has : slice_get w.devices (device - 1) ≡ Some r)
    (number : ℕ) (cur : side.wire.current ≡ Some number) (link : LinkState) (link_is : link_at side.wire number ≡ Some link) where
  abbrev state : ManagerState
  state = manager_in w

  current_is : current_link side.wire ≡ Some link
  current_is = ap (option_and_then (link_at side.wire)) cur ∙ link_is

  -- who is current is this one
  it_is : (l : ℕ) (one : LinkState) → slice_get side.wire.links l ≡ Some one → side.wire.current ≡ Some (suc l) → one ≡ link
  it_is l one found current =
      let number_is : number ≡ suc l = same_Some number (suc l) (sym cur ∙ current) in
      same_Some one link (sym found ∙ sym (ap (slice_get side.wire.links) (place l)) ∙ ap (λ n. slice_get side.wire.links (n - 1)) (sym number_is) ∙ (not_zero (number == 0) (slice_get side.wire.links (number - 1)) link link_is).1)
    where
      place : (l : ℕ) → suc l - 1 ≡ l
      place l = omega arith

  abbrev after_break : CoreState Config Node
  after_break = (breaking w change device).after

  pub broken_step : is_stranded_at r link ≡ true → IsPairStep w after_break (change - 1) (device - 1)
  broken_step stranded = record {
    slot = slot;
    there = there;
    seat = seat;
    here = here;
    side = side;
    at = at;
    r = r;
    device = has;
    new_course = course.with_break slot.course device;
    new_seat = record seat { stage = broken_stage seat.stage; awaited = None };
    new_side = cut_off (to_commit slot.course.verdict) side;
    new_r = r;
    verdict = ap (λ c. c.verdict) same;
    seats = ap (λ c. c.seats) same;
    slots = ap (λ o. (on_slot (breaks_pair device) state change device o).state.slots) there ∙ ap (λ o. slice_set w.slots (change - 1) (on_side (breaks_pair device) slot device o).slot) at
        ∙ ap (λ c. slice_set w.slots (change - 1) (with_pair slot device (breaks_current slot.course side device c)).slot) cur;
    entries = ap (λ o. (on_slot (breaks_pair device) state change device o).state.entries) there;
    operators = refl;
    devices = sym (set_same w.devices (device - 1) r has);
    falls = let low = broken_less (is_held r) (is_modified r.device.stores) slot.course.verdict (to_commit slot.course.verdict) seat.stage in
        subst (λ o. suc (quiet_rank slot.course.verdict (broken_stage seat.stage) (fresh_resync (to_commit slot.course.verdict)) r) ≤ link_rank slot.course.verdict seat.stage seat.awaited side.resync r o) (sym current_is)
        (subst (λ b. suc (quiet_rank slot.course.verdict (broken_stage seat.stage) (fresh_resync (to_commit slot.course.verdict)) r) ≤ if_stranded b + way_rank slot.course.verdict seat.stage seat.awaited side.resync r link.way) (sym stranded)
        (omega (arith, low)));
    current = λ all l one found opened. absurd (closed one (it_is l one found (all l one found opened)) opened);
    sessions = λ t is. inl is;
  }
    where
      same : course.with_break slot.course device ≡ course.with_break_at slot.course device (Some seat)
      same = ap (course.with_break_at slot.course device) here

      not_both : (a b : Bool) → (not a && not b) ≡ true → a ≡ true → ⊥
      not_both true b h e = absurd (let f : false ≡ true = h in cc)
      not_both false b h e = absurd (let f : false ≡ true = e in cc)

      closed : (one : LinkState) → one ≡ link → IsOpenAt r one → ⊥
      closed one e opened = not_both (link.is_open && is_session_open r (session_of link)) (will_end link.way) stranded (subst (IsOpenAt r) e opened)

  -- ---- a reply is handled

  module _ (goes : GoesWith slot.course.verdict seat side) (steady : IsSteady side.wire) (k : ℕ) (exchange : Exchange) (told : link.way ≡ Told exchange) (due_now : due side.wire number k ≡ Some exchange) where
    d : IsDue side.wire number exchange
    d = due_is side.wire number k exchange due_now

    held_is : d.held ≡ link
    held_is = same_Some d.held link (sym d.here ∙ link_is)

    abbrev after_answer : CoreState Config Node
    after_answer = (answering w change device number k).after

    abbrev handled_wire : WireState
    handled_wire = handled_at side.wire number (Some exchange)

    abbrev v : Option Verdict
    v = slot.course.verdict

    slots_as : (b : Bool) → awaits_resync (Some seat) ≡ b → (received state change device number k).state.slots ≡ slice_set w.slots (change - 1) (with_pair slot device (receives_due b slot.course side device handled_wire (Some exchange))).slot
    slots_as b is =
        ap (λ o. (on_slot (receives_pair device number k) state change device o).state.slots) there ∙ ap (λ o. slice_set w.slots (change - 1) (on_side (receives_pair device number k) slot device o).slot) at
        ∙ ap (λ o. slice_set w.slots (change - 1) (with_pair slot device (receives_due (awaits_resync o) slot.course side device (handled_at side.wire number (due side.wire number k)) (due side.wire number k))).slot) here
        ∙ ap (λ o. slice_set w.slots (change - 1) (with_pair slot device (receives_due (awaits_resync (Some seat)) slot.course side device (handled_at side.wire number o) o)).slot) due_now
        ∙ ap (λ b. slice_set w.slots (change - 1) (with_pair slot device (receives_due b slot.course side device handled_wire (Some exchange))).slot) is

    open_same : (past : _) (way : Way) (is_open : Bool) → (handled_by (record { past = past; way = way; is_open = is_open }) way).is_open ≡ is_open
    open_same past Quiet is_open = refl
    open_same past (Asked request) is_open = refl
    open_same past (Told other) is_open = refl

    side_same : IsOpenAt r (handled_on link) → IsOpenAt r link
    side_same opened = ap (λ b. b && is_session_open r (session_of link)) (sym (open_same link.past link.way link.is_open)) ∙ ap (λ s. (handled_on link).is_open && is_session_open r s) (sym (did_handled link).session) ∙ opened

    -- the rank of what is left falls by the reply
    rank_after : (stage : Stage) (now : ResyncState) → (before : ℕ) → suc (quiet_rank v stage now r) ≤ before → suc (link_rank v stage None now r (current_link handled_wire)) ≤ if_stranded (is_stranded_at r link) + before
    rank_after stage now before low =
        subst (λ o. suc (link_rank v stage None now r o) ≤ if_stranded (is_stranded_at r link) + before) (sym (current_handled side.wire number exchange d)) (by_end (ends exchange.request exchange.reply) refl)
      where
        stranded_so : ends exchange.request exchange.reply ≡ false → is_stranded_at r (handled_on d.held) ≡ is_stranded_at r link
        stranded_so e =
            ap (λ one. is_stranded_at r (handled_on one)) held_is
            ∙ ap (λ w. not ((handled_on link).is_open && is_session_open r (session_of (handled_on link))) && not (will_end w)) (handled_quiet link exchange told)
            ∙ ap (λ b. not (b && is_session_open r (session_of (handled_on link))) && true) (open_same link.past link.way link.is_open)
            ∙ ap (λ s. not (link.is_open && is_session_open r s) && true) (did_handled link).session
            ∙ ap (λ b. not (link.is_open && is_session_open r (session_of link)) && not b) (sym (ap will_end told ∙ e))

        way_so : way_rank v stage None now r (handled_on d.held).way ≡ quiet_rank v stage now r
        way_so = ap (way_rank v stage None now r) (handled_quiet d.held exchange d.way)

        by_end : (b : Bool) → ends exchange.request exchange.reply ≡ b → suc (link_rank v stage None now r (cond b None (Some (handled_on d.held)))) ≤ if_stranded (is_stranded_at r link) + before
        by_end true e = omega (arith, low)
        by_end false e = let one : if_stranded (is_stranded_at r (handled_on d.held)) ≡ if_stranded (is_stranded_at r link) = ap if_stranded (stranded_so e) in let two = way_so in omega (arith, low, one, two)

    -- what is current stays so, but where the device's side has ended
    held_there : slice_get side.wire.links (number - 1) ≡ Some link
    held_there = (not_zero (number == 0) (slice_get side.wire.links (number - 1)) link link_is).1

    links_now : handled_wire.links ≡ slice_set side.wire.links (number - 1) (handled_on link)
    links_now = ap (λ found. (changed handled_on side.wire number found).links) link_is

    not_open : ends exchange.request exchange.reply ≡ true → link.is_open ≡ false
    not_open e = subst (IsTrueBy link) told (some_is link IsTrue (slice_get side.wire.links (number - 1)) held_there (steady.each (number - 1))) e

    opened_before : (l : ℕ) → IfSome (slice_get (slice_set side.wire.links (number - 1) (handled_on link)) l) (IsOpenAt r) → IfSome (slice_get side.wire.links l) (IsOpenAt r)
    opened_before l = set_relates (λ old new. IfSome new (IsOpenAt r) → IfSome old (IsOpenAt r)) (λ old g. g) side.wire.links (number - 1) link (handled_on link) held_there side_same l

    current_now : AllCurrent r side.wire → AllCurrent r handled_wire
    current_now all l one found opened = by_old (slice_get side.wire.links l) refl (opened_before l (subst (λ o. IfSome o (IsOpenAt r)) (sym found ∙ ap (λ links. slice_get links l) links_now) opened))
      where
        by_end : (old : LinkState) → slice_get side.wire.links l ≡ Some old → IsOpenAt r old → (b : Bool) → ends exchange.request exchange.reply ≡ b → cond b None side.wire.current ≡ Some (suc l)
        by_end old e o false f = all l old e o
        by_end old e o true f = absurd (shut link.is_open (is_session_open r (session_of link)) (not_open f) (subst (IsOpenAt r) (it_is l old e (all l old e o)) o))
          where
            shut : (a b : Bool) → a ≡ false → (a && b) ≡ true → ⊥
            shut true b e h = absurd (let f : true ≡ false = e in cc)
            shut false b e h = absurd (let f : false ≡ true = h in cc)

        by_old : (old : Option LinkState) → slice_get side.wire.links l ≡ old → IfSome old (IsOpenAt r) → handled_wire.current ≡ Some (suc l)
        by_old None e o = absurd (none-some one (sym (set_none_at side.wire.links (number - 1) (handled_on link) l e) ∙ ap (λ links. slice_get links l) (sym links_now) ∙ found))
        by_old (Some old) e o = by_end old e o (ends exchange.request exchange.reply) refl

    answer_as : (what : Ask) (b : Bool) → seat.awaited ≡ Some what → awaits_resync (Some seat) ≡ b → (new_course : CourseState) (stage : Stage) (now : ResyncState) → new_course.verdict ≡ v
        → new_course.seats ≡ slice_set slot.course.seats (device - 1) (record seat { stage = stage; awaited = None })
        → (with_pair slot device (receives_due b slot.course side device handled_wire (Some exchange))).slot ≡ record { course = new_course; sides = slice_set slot.sides (device - 1) (record { wire = handled_wire; resync = now }) }
        → suc (quiet_rank v stage now r) ≤ 3 * told_left (is_held r) (is_modified r.device.stores) v side.resync seat.stage what exchange.reply + 1 → IsPairStep w after_answer (change - 1) (device - 1)
    answer_as what b awaited is new_course stage now verdict seats slot_is low = record {
      slot = slot;
      there = there;
      seat = seat;
      here = here;
      side = side;
      at = at;
      r = r;
      device = has;
      new_course = new_course;
      new_seat = record seat { stage = stage; awaited = None };
      new_side = record { wire = handled_wire; resync = now };
      new_r = r;
      verdict = verdict;
      seats = seats;
      slots = slots_as b is ∙ ap (λ s. slice_set w.slots (change - 1) s) slot_is;
      entries = ap (λ o. (on_slot (receives_pair device number k) state change device o).state.entries) there;
      operators = refl;
      devices = sym (set_same w.devices (device - 1) r has);
      falls = subst (λ o. suc (link_rank v stage None now r (current_link handled_wire)) ≤ link_rank v seat.stage seat.awaited side.resync r o) (sym current_is)
          (rank_after stage now (way_rank v seat.stage seat.awaited side.resync r link.way)
          (subst (λ o. suc (quiet_rank v stage now r) ≤ way_rank v seat.stage o side.resync r link.way) (sym awaited) (subst (λ x. suc (quiet_rank v stage now r) ≤ way_rank v seat.stage (Some what) side.resync r x) (sym told) low)));
      current = current_now;
      sessions = λ t is. inl is;
    }

    same_found : (known : Option Bool) → settled_stage known ≡ found_stage known
    same_found None = refl
    same_found (Some kept) = refl

    answer_by : (what : Ask) → seat.awaited ≡ Some what → (b : Bool) → is_resync (Some what) ≡ b → IsPairStep w after_answer (change - 1) (device - 1)
    answer_by what awaited false e =
        let same : course.with_reply slot.course device exchange.reply ≡ course.with_answer slot.course device exchange.reply seat (Some what) =
        ap (course.with_reply_at slot.course device exchange.reply) here ∙ ap (course.with_answer slot.course device exchange.reply seat) awaited in
        answer_as what false awaited (ap is_resync awaited ∙ e) (course.with_reply slot.course device exchange.reply) (learnt v seat.stage what exchange.reply) side.resync (ap (λ c. c.verdict) same) (ap (λ c. c.seats) same) refl
        (subst (λ b. suc (quiet_rank v (learnt v seat.stage what exchange.reply) side.resync r) ≤ 3 * (2 * left (is_held r) (is_modified r.device.stores) v (resync_then b side.resync exchange.reply) (stage_then b v side.resync seat.stage what exchange.reply)) + 1) (sym e) (omega arith))
    answer_by what awaited true e =
        let is_it : what ≡ ask.Resync = resync_alone what e in
        let awaits_it : seat.awaited ≡ Some ask.Resync = awaited ∙ ap Some is_it in
        let at_it : seat.stage ≡ Resync = at_resync v seat side goes number exchange d awaits_it in
        let known : Option Bool = settled_in (resync_learnt side.resync.commit side.resync.stage exchange.reply) in
        let same = found_course slot.course device exchange.reply seat here awaits_it at_it known in
        answer_as what true awaited (ap is_resync awaited ∙ e) _ (found_stage known) (resync.with_reply side.resync exchange.reply) (ap (λ (c : CourseState). c.verdict) same) (ap (λ (c : CourseState). c.seats) same) refl
        (subst (λ b. suc (quiet_rank v (found_stage known) (resync.with_reply side.resync exchange.reply) r) ≤ 3 * (2 * left (is_held r) (is_modified r.device.stores) v (resync_then b side.resync exchange.reply) (stage_then b v side.resync seat.stage what exchange.reply)) + 1) (sym e)
        (subst (λ st. suc (quiet_rank v st (resync.with_reply side.resync exchange.reply) r) ≤ 3 * (2 * left (is_held r) (is_modified r.device.stores) v (resync.with_reply side.resync exchange.reply) (settled_stage known)) + 1) (same_found known) (omega arith)))

    answer_awaited : (awaited : Option Ask) → seat.awaited ≡ awaited → IsPairStep w after_answer (change - 1) (device - 1)
    answer_awaited None e =
        let asked : current_ask side.wire ≡ Some (ask_of exchange.request) = told_ask v seat side goes number exchange d in
        absurd (let f : None ≡ Some (ask_of exchange.request) = sym (ap (option_map (asked_in_fact side.resync)) e) ∙ goes.asked ∙ asked in cc)
    answer_awaited (Some what) e = answer_by what e (is_resync (Some what)) refl

    pub answered_step : IsPairStep w after_answer (change - 1) (device - 1)
    answered_step = answer_awaited seat.awaited refl
