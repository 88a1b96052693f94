-- At the turn of a change set nothing is on its way on its links, and none of them is stranded.
use Rattle.std.proofs.Common.{◌≡◌, ◌∙◌, ◌⊎◌, inl, inr, ℕ, suc, ◌+◌, ◌-◌, nat_lt, Bool, true, false, cond, not, ◌&&◌, List, length, Option, Some, None, is_some, option_map, option_and_then, slice_get, refl, sym, ap, subst, arith}
use Rattle.std.proofs.lemmas.Bool.Decides.{nat_tests}
use Rattle.std.proofs.lemmas.Option.{none-some, same_Some, slice_get_within}
use Rattle.nm_proto.specs.declared.ask.Ask.{Ask}
use Rattle.nm_proto.specs.declared.message.Request.{Request}
use Rattle.nm_proto.specs.declared.plan.Event.{Event}
use Rattle.nm_proto.specs.declared.plan.Event.TheVariants.{Turn, Break, Deliver, Answer}
use Rattle.nm_proto.specs.Content.{Meaning}
use Rattle.nm_history.specs.History.{RecordedState}
use Rattle.nm_decider.specs.declared.seat.Seat.{Seat}
use Rattle.nm_wire.specs.declared.link.Way.{Way}
use Rattle.nm_wire.specs.declared.link.Way.TheVariants.{Quiet, Asked, Told}
use Rattle.nm_wire.specs.Link.{LinkState, session_of, outstanding, asked_on, told_count}
use Rattle.nm_wire.specs.Words.{ask_on}
use Rattle.nm_wire.specs.Wire.{WireState, link_at, current_link}
use Rattle.nm_manager.specs.Slot.{SideState, SlotState, wire_of_side, asked_in_fact}
use Rattle.nm_manager.specs.Manager.{ManagerState, wire_of, wire_in}
use Rattle.nm_safety.specs.Step.{GoesWith, way_ask}
use Rattle.nm_world.specs.World.{Setting, CoreState, manager_in, is_session_open, is_side_open, undelivered, replies_on}
use Rattle.nm_world.specs.Drain.{first_from, found_or, event_if, is_awaited, is_stranded, is_stranded_on, break_on, deliver_by, deliver_on, answer_by, answer_on, at_pair, at_devices, goes_on}
use Rattle.nm_world.proofs.Numbered.{found_in}
use Rattle.nm_rest_laws.proofs.rest.Measure.{will_end, is_stranded_at}
use Rattle.nm_safety.proofs.Lists.{down}
use Rattle.nm_rest_laws.proofs.rest.Calm.{none_in}
use Rattle.nm_rest_laws.proofs.rest.Lasting.{IsLasting}
use Rattle.nm_rest_laws.proofs.rest.Plain.{is_turn, plain_if}
use Rattle.nm_rest_laws.proofs.rest.Finding.{IsAt, is_at, links_is, at_link, side_open, awaited_is}

-- ---- what isn't found

module _ {Config Node : Type 0} (r : RecordedState Config Node) (links : WireState) (change device : ℕ) where
  delivers_plain : (current : Option ℕ) (x : Event) → deliver_by r links change device current ≡ Some x → is_turn x ≡ false
  delivers_plain None x e = absurd (none-some x e)
  delivers_plain (Some link) x e = plain_if (is_some (undelivered r links link)) (Deliver change device link) x refl e

  answers_plain : (current : Option ℕ) (x : Event) → answer_by links change device current ≡ Some x → is_turn x ≡ false
  answers_plain None x e = absurd (none-some x e)
  answers_plain (Some link) x e = plain_if (is_awaited links link) (Answer change device link (replies_on links link)) x refl e

module _ {Config Node : Type 0} (devices : List (RecordedState Config Node)) (state : ManagerState) (change : ℕ) where
  abbrev Finder : Type 0
  Finder = ℕ → RecordedState Config Node → Option Event

  abbrev on_some : Finder → ℕ → Option (RecordedState Config Node) → Option Event
  on_some by device None = None
  on_some by device (Some r) = by device r

  abbrev at_place : Finder → ℕ → Option Event
  at_place by device = on_some by device (slice_get devices (device - 1))

  -- the first of the devices at which something is found
  abbrev finds : Finder → Option Event
  finds by = first_from (at_place by) 1 (length devices)

  abbrev by_break : Finder
  by_break device r = break_on r (wire_in state change device) change device

  abbrev by_deliver : Finder
  by_deliver device r = deliver_on r (wire_in state change device) change device

  abbrev by_answer : Finder
  by_answer device r = answer_on (wire_in state change device) change device

  finds_plain : (by : Finder) → ((device : ℕ) (r : RecordedState Config Node) (x : Event) → by device r ≡ Some x → is_turn x ≡ false) → (x : Event) → finds by ≡ Some x → is_turn x ≡ false
  finds_plain by plain x e = let f = found_in (at_place by) 1 (length devices) x e in by_device f.number (slice_get devices (f.number - 1)) f.found
    where
      by_device : (device : ℕ) (found : Option (RecordedState Config Node)) → on_some by device found ≡ Some x → is_turn x ≡ false
      by_device device None e = absurd (none-some x e)
      by_device device (Some r) e = plain device r x e

  -- a turn comes where none of the three rules finds anything
  none_found : (first second third : Option Event) → ((x : Event) → first ≡ Some x → is_turn x ≡ false) → ((x : Event) → second ≡ Some x → is_turn x ≡ false) → ((x : Event) → third ≡ Some x → is_turn x ≡ false)
      → found_or first (found_or second (found_or third (Some (Turn change)))) ≡ Some (Turn change) → (first ≡ None) × ((second ≡ None) × (third ≡ None))
  none_found None None None a b c e = (refl, (refl, refl))
  none_found (Some x) second third a b c e = absurd (let same : x ≡ Turn change = cc in let f : true ≡ false = ap is_turn (sym same) ∙ a x refl in cc)
  none_found None (Some x) third a b c e = absurd (let same : x ≡ Turn change = cc in let f : true ≡ false = ap is_turn (sym same) ∙ b x refl in cc)
  none_found None None (Some x) a b c e = absurd (let same : x ≡ Turn change = cc in let f : true ≡ false = ap is_turn (sym same) ∙ c x refl in cc)

  -- what is no turn is found by one of them
  plain_or : (first second third : Option Event) → ((x : Event) → first ≡ Some x → is_turn x ≡ false) → ((x : Event) → second ≡ Some x → is_turn x ≡ false) → ((x : Event) → third ≡ Some x → is_turn x ≡ false)
      → (x : Event) → found_or first (found_or second (found_or third (Some (Turn change)))) ≡ Some x → (is_turn x ≡ false) ⊎ (Turn change ≡ x)
  plain_or (Some y) second third a b c x e = inl (a x e)
  plain_or None (Some y) third a b c x e = inl (b x e)
  plain_or None None (Some y) a b c x e = inl (c x e)
  plain_or None None None a b c x e = inr (same_Some (Turn change) x e)

  break_plain : (x : Event) → finds by_break ≡ Some x → is_turn x ≡ false
  break_plain = finds_plain by_break (λ device r x f. plain_if (is_stranded r (wire_in state change device)) (Break change device) x refl f)

  deliver_plain : (x : Event) → finds by_deliver ≡ Some x → is_turn x ≡ false
  deliver_plain = finds_plain by_deliver (λ device r x f. delivers_plain r (wire_in state change device) change device (wire_in state change device).current x f)

  answer_plain : (x : Event) → finds by_answer ≡ Some x → is_turn x ≡ false
  answer_plain = finds_plain by_answer (λ device r x f. answers_plain r (wire_in state change device) change device (wire_in state change device).current x f)

  pub goes_plain : (x : Event) → goes_on devices state change ≡ Some x → (is_turn x ≡ false) ⊎ (Turn change ≡ x)
  unfolding at_devices at_pair
  goes_plain x e = plain_or (finds by_break) (finds by_deliver) (finds by_answer) break_plain deliver_plain answer_plain x e

  three_none : goes_on devices state change ≡ Some (Turn change) → (finds by_break ≡ None) × ((finds by_deliver ≡ None) × (finds by_answer ≡ None))
  unfolding at_devices at_pair
  three_none e = none_found (finds by_break) (finds by_deliver) (finds by_answer) break_plain deliver_plain answer_plain e

  -- so nothing is found at any device
  none_at : (by : Finder) → finds by ≡ None → (d : ℕ) (r : RecordedState Config Node) → slice_get devices d ≡ Some r → by (suc d) r ≡ None
  none_at by e d r here =
      let within = slice_get_within devices d r here in
      sym (ap (on_some by (suc d)) (down devices d ∙ here)) ∙ none_in (at_place by) 1 (length devices) (suc d) e (omega arith) (omega (arith, within))

none_if : (b : Bool) (event : Event) → event_if b event ≡ None → b ≡ false
none_if true event e = absurd (none-some event (sym e))
none_if false event e = refl

-- ---- the current link

-- nothing is on its way on it, and it isn't stranded
abbrev pub IsCalmLink : {Config Node : Type 0} → RecordedState Config Node → Option LinkState → Type 0
IsCalmLink r None = Unit {0}
IsCalmLink r (Some link) = (link.way ≡ Quiet) × (is_stranded_at r link ≡ false)

module _ {Config TheEdit Node : Type 0} (m : Meaning Config TheEdit Node) (setting : Setting TheEdit) (n : ℕ) (w : CoreState Config Node) (k : IsLasting m setting n w) (change : ℕ) where
  abbrev state : ManagerState
  state = manager_in w

  module _ (device : ℕ) (r : RecordedState Config Node) (has : slice_get w.devices (device - 1) ≡ Some r) (a : IsAt w change device r) where
    abbrev links : WireState
    links = wire_in state change device

    opens : (b c : Bool) → c ≡ false → (not b && not c) ≡ false → b ≡ true
    opens true c e f = refl
    opens false true e f = absurd (let g : true ≡ false = e in cc)
    opens false false e f = absurd (let g : true ≡ false = f in cc)

    both : (b c : Bool) → (b && c) ≡ true → (b ≡ true) × (c ≡ true)
    both true c h = (refl, h)
    both false c h = absurd (let e : false ≡ true = h in cc)

    module _ (stranded : (not (is_side_open r links a.number) && not (is_awaited links a.number)) ≡ false) (told : is_awaited links a.number ≡ false) (asked : is_some (undelivered r links a.number) ≡ false) where
      opened : (a.link.is_open && is_session_open r (session_of a.link)) ≡ true
      opened = sym (side_open m setting n w k change device r has a) ∙ opens (is_side_open r links a.number) (is_awaited links a.number) told stranded

      delivers : (request : Request) → a.link.way ≡ Asked request → is_some (undelivered r links a.number) ≡ true
      delivers request e =
          let parts = both a.link.is_open (is_session_open r (session_of a.link)) opened in
          ap (λ o. is_some (cond (is_session_open r (option_and_then session_of o)) (option_and_then outstanding o) None)) (at_link m setting n w k change device r has a)
          ∙ ap (λ b. is_some (cond b (outstanding a.link) None)) parts.1 ∙ ap (λ b. is_some (cond b (asked_on a.link.way) None)) parts.0 ∙ ap (λ way. is_some (asked_on way)) e

      less : (x : ℕ) → nat_lt x (x + 1) ≡ true
      less x = grind (arith, nat_tests)

      by_way : (way : Way) → a.link.way ≡ way → IsCalmLink r (Some a.link)
      by_way Quiet e = (e, ap (λ b. not b && not (will_end a.link.way)) opened)
      by_way (Asked request) e = absurd (let f : true ≡ false = sym (delivers request e) ∙ asked in cc)
      by_way (Told exchange) e =
          absurd (let f : true ≡ false = sym (less (length a.link.past)) ∙ sym (ap (λ way. nat_lt (length a.link.past) (length a.link.past + told_count way)) e) ∙ sym (awaited_is m setting n w k change device r has a) ∙ told in cc)

      quiet_at : IsCalmLink r (Some a.link)
      quiet_at = by_way a.link.way refl

  module _ (e : goes_on w.devices state change ≡ Some (Turn change)) (d : ℕ) (r : RecordedState Config Node) (here : slice_get w.devices d ≡ Some r) where
    has : slice_get w.devices (suc d - 1) ≡ Some r
    has = down w.devices d ∙ here

    quiet_number : (number : ℕ) → (wire_in state change (suc d)).current ≡ Some number → (a : IsAt w change (suc d) r) → IsCalmLink r (Some a.link)
    quiet_number number cur a =
        let none = three_none w.devices state change e in
        let same : (wire_in state change (suc d)).current ≡ Some a.number = ap (λ (wire : WireState). wire.current) (links_is m setting n w k change (suc d) r has a) ∙ a.cur in
        quiet_at (suc d) r has a
        (none_if _ (Break change (suc d)) (ap (λ o. event_if (is_stranded_on r (wire_in state change (suc d)) o) (Break change (suc d))) (sym same) ∙ none_at w.devices state change (by_break w.devices state change) none.0 d r here))
        (none_if _ (Answer change (suc d) a.number (replies_on (wire_in state change (suc d)) a.number)) (ap (answer_by (wire_in state change (suc d)) change (suc d)) (sym same) ∙ none_at w.devices state change (by_answer w.devices state change) none.1.1 d r here))
        (none_if _ (Deliver change (suc d) a.number) (ap (deliver_by r (wire_in state change (suc d)) change (suc d)) (sym same) ∙ none_at w.devices state change (by_deliver w.devices state change) none.1.0 d r here))

    module _ (slot : SlotState) (there : slice_get w.slots (change - 1) ≡ Some slot) (side : SideState) (at : slice_get slot.sides d ≡ Some side) where
      wire_is : wire_in state change (suc d) ≡ side.wire
      wire_is = ap (wire_of (suc d)) there ∙ ap wire_of_side (down slot.sides d ∙ at)

      by_current : (current : Option ℕ) → side.wire.current ≡ current → IsCalmLink r (current_link side.wire)
      by_current None cur = subst (IsCalmLink r) (sym (ap (option_and_then (link_at side.wire)) cur)) tt
      by_current (Some number) cur =
          let now : (wire_in state change (suc d)).current ≡ Some number = ap (λ (wire : WireState). wire.current) wire_is ∙ cur in
          let a = is_at m setting n w k change (suc d) r has number now in
          subst (IsCalmLink r)
          (sym (ap (option_and_then (link_at a.side.wire)) a.cur ∙ a.link_is) ∙ ap current_link (sym (links_is m setting n w k change (suc d) r has a) ∙ wire_is)) (quiet_number number now a)

      pub quiet_link : IsCalmLink r (current_link side.wire)
      quiet_link = by_current side.wire.current refl

      asks_none : (link : Option LinkState) → IsCalmLink r link → option_and_then way_ask link ≡ None
      asks_none None calm = refl
      asks_none (Some link) calm = ap ask_on calm.0

      -- so nothing is awaited
      pub quiet_seat : (decided : _) (seat : Seat) → GoesWith decided seat side → seat.awaited ≡ None
      quiet_seat decided seat goes = by_awaited seat.awaited (goes.asked ∙ asks_none (current_link side.wire) quiet_link)
        where
          by_awaited : (awaited : Option Ask) → option_map (asked_in_fact side.resync) awaited ≡ None → awaited ≡ None
          by_awaited None f = refl
          by_awaited (Some what) f = absurd (none-some (asked_in_fact side.resync what) (sym f))
