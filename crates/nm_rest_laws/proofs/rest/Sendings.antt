-- A request is delivered, and its reply is on its way, in a world in which nothing is left to close.
use Rattle.std.proofs.Common.{◌≡◌, ◌∙◌, ◌⊎◌, inl, inr, ℕ, suc, ◌+◌, ◌-◌, ◌*◌, ◌≤◌, ◌==◌, Bool, true, false, cond, not, ◌&&◌, Option, Some, None, option_map, option_and_then, slice_get, slice_set, refl, sym, ap, subst, arith}
use Rattle.std.proofs.lemmas.Bool.Decides.{nat_tests}
use Rattle.std.proofs.lemmas.Option.{none-some, same_Some}
use Rattle.nm_proto.specs.declared.ask.Ask.{Ask}
use Rattle.nm_proto.specs.declared.message.Request.{Request}
use Rattle.nm_proto.specs.declared.message.Reply.{Reply}
use Rattle.nm_proto.specs.declared.message.Reply.TheVariants.{Opened}
use Rattle.nm_proto.specs.declared.journal.AbortCause.{AbortCause}
use Rattle.nm_proto.specs.declared.journal.Verdict.{Verdict}
use Rattle.nm_sessions.specs.Sessions.{is_open}
use Rattle.nm_stores.specs.Stores.{is_modified}
use Rattle.nm_device.specs.Table.{is_opening}
use Rattle.nm_history.specs.History.{RecordedState}
use Rattle.nm_decider.specs.declared.seat.Seat.{Seat}
use Rattle.nm_wire.specs.declared.link.Way.TheVariants.{Asked, Told}
use Rattle.nm_wire.specs.Asks.{ask_of}
use Rattle.nm_wire.specs.Link.{LinkState, session_of, ends, closes, told_on, told_by}
use Rattle.nm_wire.specs.Words.{ask_on}
use Rattle.nm_wire.specs.Wire.{link_at, current_link, told, changed}
use Rattle.nm_manager.specs.Slot.{SideState, SlotState, with_wire, wires_on, told_wire, asked_in_fact}
use Rattle.nm_manager.specs.Manager.{told_on as told_state, wires_in}
use Rattle.nm_world.specs.World.{CoreState, manager_in, with_manager, with_device, is_session_open}
use Rattle.nm_safety.specs.Step.{GoesWith, awaits_rightly}
use Rattle.nm_safety.proofs.Answered.{told_link}
use Rattle.nm_safety.proofs.Places.{set_same}
use Rattle.nm_safety.proofs.Gone.{not_zero}
use Rattle.nm_safety.proofs.Managed.{others_stay}
use Rattle.nm_rest_laws.specs.Steady.{is_right}
use Rattle.nm_rest_laws.proofs.rest.Measure.{asked_left, told_left, will_end, if_stranded, is_stranded_at, is_held, way_rank, link_rank}
use Rattle.nm_safety.proofs.Wires.{set_there}
use Rattle.nm_rest_laws.proofs.rest.Ranks.{told_less, tells_well}
use Rattle.nm_rest_laws.proofs.rest.Serving.{IsReplied}
use Rattle.nm_rest_laws.proofs.rest.Calm.{IsOpenAt, AllCurrent}
use Rattle.nm_rest_laws.proofs.rest.PairSteps.{IsPairStep}
use Rattle.nm_rest_laws.proofs.rest.Delivering.{IsToldWell}

closes_not : (request : Request) (reply : Reply) → ends request reply ≡ false → closes request reply ≡ false
closes_not request reply e = grind arith

-- ---- a request is delivered

module _ {Config Node : Type 0} (w : CoreState Config Node) (change device : ℕ) (slot : SlotState) (there : slice_get w.slots (change - 1) ≡ Some slot)
    (seat : Seat) (here : slice_get slot.course.seats (device - 1) ≡ Some seat) (side : SideState) (at : slice_get slot.sides (device - 1) ≡ Some side) (r : RecordedState Config Node) (has : slice_get w.devices (device - 1) ≡ Some r)
    (number : ℕ) (cur : side.wire.current ≡ Some number) (link : LinkState) (link_is : link_at side.wire number ≡ Some link) (goes : GoesWith slot.course.verdict seat side)
    (request : Request) (asked : link.way ≡ Asked request) (reply : Reply) (after : RecordedState Config Node) (well : IsToldWell r after (session_of link) request reply) (replied : IsReplied r (session_of link) request reply after)
    (open_now : link.is_open ≡ true) (t : Option AbortCause) (right : is_right slot.course.verdict t seat.stage seat.awaited ≡ true) where
  abbrev v : Option Verdict
  v = slot.course.verdict

  current_is : current_link side.wire ≡ Some link
  current_is = ap (option_and_then (link_at side.wire)) cur ∙ link_is

  link_there : ((number == 0) ≡ false) × (slice_get side.wire.links (number - 1) ≡ Some link)
  link_there = not_zero (number == 0) (slice_get side.wire.links (number - 1)) link link_is

  told_is : told side.wire number reply ≡ record { links = slice_set side.wire.links (number - 1) (told_on reply link); current = side.wire.current }
  told_is = ap (changed (told_on reply) side.wire number) link_is

  current_told : current_link (told side.wire number reply) ≡ Some (told_on reply link)
  current_told =
      ap current_link told_is ∙ ap (option_and_then (link_at (record { links = slice_set side.wire.links (number - 1) (told_on reply link); current = side.wire.current }))) cur
      ∙ ap (λ b. cond b None (slice_get (slice_set side.wire.links (number - 1) (told_on reply link)) (number - 1))) link_there.0 ∙ set_there side.wire.links (number - 1) link (told_on reply link) link_there.1

  way_told : (told_on reply link).way ≡ Told (record { request = request; reply = reply })
  way_told = subst (λ y. (told_by reply link y).way ≡ Told (record { request = request; reply = reply })) (sym asked) refl

  open_told : (told_on reply link).is_open ≡ (link.is_open && not (closes request reply))
  open_told = subst (λ y. (told_by reply link y).is_open ≡ (link.is_open && not (closes request reply))) (sym asked) refl

  not_stranded : is_stranded_at after (told_on reply link) ≡ false
  not_stranded = ap (λ y. not ((told_on reply link).is_open && is_session_open after (session_of (told_on reply link))) && not (will_end y)) way_told ∙ by_end (ends request reply) refl
    where
      or_false : (a b : Bool) → b ≡ true → (not a && not b) ≡ false
      or_false true true e = refl
      or_false false true e = refl
      or_false a false e = absurd (let f : false ≡ true = e in cc)

      first_true : (a b : Bool) → a ≡ true → (not a && not b) ≡ false
      first_true true b e = refl
      first_true false b e = absurd (let f : false ≡ true = e in cc)

      by_end : (b : Bool) → ends request reply ≡ b → (not ((told_on reply link).is_open && is_session_open after (session_of (told_on reply link))) && not (ends request reply)) ≡ false
      by_end true e = or_false ((told_on reply link).is_open && is_session_open after (session_of (told_on reply link))) (ends request reply) e
      by_end false e =
          first_true ((told_on reply link).is_open && is_session_open after (session_of (told_on reply link))) (ends request reply)
          (ap (λ b. b && is_session_open after (session_of (told_on reply link))) (open_told ∙ ap (λ b. b && not (closes request reply)) open_now ∙ ap not (closes_not request reply e))
          ∙ ap (is_session_open after) (told_link link request reply asked).session ∙ well.lives e)

  falls_by : (awaited : Option Ask) → seat.awaited ≡ awaited → suc (link_rank v seat.stage awaited side.resync after (Some (told_on reply link))) ≤ link_rank v seat.stage awaited side.resync r (Some link)
  falls_by None e =
      absurd (none-some (ask_of request) (sym (ap (option_map (asked_in_fact side.resync)) e) ∙ goes.asked ∙ ap (option_and_then (λ l. ask_on l.way)) current_is ∙ ap ask_on asked))
  falls_by (Some what) e =
      let in_fact : asked_in_fact side.resync what ≡ ask_of request =
      same_Some (asked_in_fact side.resync what) (ask_of request) (sym (ap (option_map (asked_in_fact side.resync)) e) ∙ goes.asked ∙ ap (option_and_then (λ l. ask_on l.way)) current_is ∙ ap ask_on asked) in
      let less = told_less (is_held r) (is_modified r.device.stores) (is_held after) (is_modified after.device.stores) t side.resync v seat.stage what reply (subst (λ o. awaits_rightly v seat.stage o ≡ true) e goes.awaits)
      (subst (λ o. is_right v t seat.stage o ≡ true) e right) goes.resyncs (ap (λ a. tells_well (is_held r) (is_modified r.device.stores) (is_held after) (is_modified after.device.stores) a reply) in_fact ∙ well.tells) in
      let new_way : way_rank v seat.stage (Some what) side.resync after (told_on reply link).way ≡ 3 * told_left (is_held after) (is_modified after.device.stores) v side.resync seat.stage what reply + 1 = ap (way_rank v seat.stage (Some what) side.resync after) way_told in
      let old_way : way_rank v seat.stage (Some what) side.resync r link.way ≡ 3 * asked_left (is_held r) (is_modified r.device.stores) v side.resync seat.stage what + 2 = ap (way_rank v seat.stage (Some what) side.resync r) asked in
      let calm : if_stranded (is_stranded_at after (told_on reply link)) ≡ 0 = ap if_stranded not_stranded in
      omega (arith, less, new_way, old_way, calm)

  abbrev after_told : CoreState Config Node
  after_told = with_manager (with_device w device after) (told_state (manager_in w) change device number reply)

  -- the sessions of links are numbers that were given
  module _ (within : (l : ℕ) (one : LinkState) → slice_get side.wire.links l ≡ Some one → (s : ℕ) → session_of one ≡ Some s → s ≤ r.device.sessions.last) where
    old_sessions : (s : ℕ) → is_open after.device.sessions s ≡ true → (is_open r.device.sessions s ≡ true) ⊎ (s ≡ r.device.sessions.last + 1)
    old_sessions s is = by_more (replied.more s is)
      where
        by_more : (is_open r.device.sessions s ≡ true) ⊎ ((is_opening request ≡ true) × ((reply ≡ Opened s) × (s ≡ r.device.sessions.last + 1))) → (is_open r.device.sessions s ≡ true) ⊎ (s ≡ r.device.sessions.last + 1)
        by_more (inl before) = inl before
        by_more (inr new) = inr new.1.1

    open_before : (one : LinkState) → ((s : ℕ) → session_of one ≡ Some s → s ≤ r.device.sessions.last) → IsOpenAt after one → IsOpenAt r one
    open_before one low opened = by_parts one.is_open (session_of one) refl opened
      where
        by_last : (s : ℕ) → s ≤ r.device.sessions.last → (is_open r.device.sessions s ≡ true) ⊎ (s ≡ r.device.sessions.last + 1) → is_open r.device.sessions s ≡ true
        by_last s l (inl before) = before
        by_last s l (inr new) = absurd (omega (arith, l, new))

        by_parts : (b : Bool) (session : Option ℕ) → session_of one ≡ session → (b && is_session_open after session) ≡ true → (b && is_session_open r session) ≡ true
        by_parts false session e h = h
        by_parts true None e h = h
        by_parts true (Some s) e h = by_last s (low s e) (old_sessions s h)

    current_now : AllCurrent r side.wire → AllCurrent after (told side.wire number reply)
    current_now all l one found opened =
        ap (λ wire. wire.current) told_is
        ∙ others_current l one (ap (λ wire. slice_get wire.links l) (sym told_is) ∙ found) opened
      where
        others_current : (l : ℕ) (one : LinkState) → slice_get (slice_set side.wire.links (number - 1) (told_on reply link)) l ≡ Some one → IsOpenAt after one → side.wire.current ≡ Some (suc l)
        others_current l one e opened =
            others_stay (λ i o. o ≡ Some one → side.wire.current ≡ Some (suc i)) side.wire.links (number - 1) link (told_on reply link) link_there.1
            (λ is. cur ∙ ap Some (above number link_there.0)) (λ i ne is. all i one is (open_before one (within i one is) opened)) l e
          where
            above : (n : ℕ) → (n == 0) ≡ false → n ≡ suc (n - 1)
            above n h = grind (arith, nat_tests)

    pub delivered_step : IsPairStep w after_told (change - 1) (device - 1)
    delivered_step = record {
      slot = slot;
      there = there;
      seat = seat;
      here = here;
      side = side;
      at = at;
      r = r;
      device = has;
      new_course = slot.course;
      new_seat = seat;
      new_side = with_wire side (told side.wire number reply);
      new_r = after;
      verdict = refl;
      seats = sym (set_same slot.course.seats (device - 1) seat here);
      slots = ap (λ o. (wires_in (manager_in w) change device (told_wire number reply) o).slots) there ∙ ap (λ o. slice_set w.slots (change - 1) (wires_on (told_wire number reply) slot device o)) at;
      entries = ap (λ o. (wires_in (manager_in w) change device (told_wire number reply) o).entries) there;
      operators = refl;
      devices = refl;
      falls = subst (λ o. suc (link_rank v seat.stage seat.awaited side.resync after (current_link (told side.wire number reply))) ≤ link_rank v seat.stage seat.awaited side.resync r o) (sym current_is)
          (subst (λ o. suc (link_rank v seat.stage seat.awaited side.resync after o) ≤ link_rank v seat.stage seat.awaited side.resync r (Some link)) (sym current_told) (falls_by seat.awaited refl));
      current = current_now;
      sessions = old_sessions;
    }
