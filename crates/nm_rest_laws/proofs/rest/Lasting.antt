-- What every run keeps, whatever happens.
use Rattle.std.proofs.Common.{◌≡◌, ◌∙◌, ◌⊎◌, inl, inr, ℕ, zero, suc, ◌+◌, ◌-◌, ◌≤◌, Bool, true, false, cond, List, [], ◌∷◌, length, map, Option, Some, None, IfSome, is_some, option_and_then, slice_get, slice_set, refl, sym, ap, subst, arith}
use Rattle.std.specs.List.{All}
use Rattle.std.proofs.lemmas.Option.{none-some, same_Some}
use Rattle.nm_proto.specs.declared.message.Request.{Request}
use Rattle.nm_proto.specs.declared.message.Reply.{Reply}
use Rattle.nm_proto.specs.declared.message.Reply.TheVariants.{Opened}
use Rattle.nm_proto.specs.declared.plan.Event.{Event}
use Rattle.nm_proto.specs.Content.{Meaning, Laws}
use Rattle.nm_sessions.specs.Sessions.{is_open}
use Rattle.nm_device.specs.Device.{is_manager}
use Rattle.nm_device.specs.Table.{is_opening, opening_user}
use Rattle.nm_history.specs.declared.event.DeviceEvent.{DeviceEvent}
use Rattle.nm_history.specs.History.{Happened, RecordedState, recorded_with, restarting, advancing}
use Rattle.nm_device_laws.specs.Moment.{Happens}
use Rattle.nm_device_laws.specs.Numbered.{IsNumbered}
use Rattle.nm_device_laws.proofs.Owns.{restart_closes}
use Rattle.nm_wire.specs.Link.{session_in, session_of}
use Rattle.nm_wire.specs.Wire.{WireState, no_links, restarted, outstanding_at, session_at}
use Rattle.nm_safety.proofs.Wires.{set_there}
use Rattle.nm_manager.specs.Slot.{SlotState, wires_on, told_wire, lost_wire, restarted_slot, anew, breaks, cut_off, decided, is_commit, lost_memory, receives, renews, sends, to_commit}
use Rattle.nm_manager.specs.Manager.{start_anew}
use Rattle.nm_world.specs.World.{Setting, CoreState, WorldState, manager_in, core_of, given_on, given_in, has_on, open_on, with_session, with_opened, world_step, Came}
use Rattle.nm_safety.specs.Safe.{IsGiven}
use Rattle.nm_safety.specs.Support.{IsDevice, IsSupported}
use Rattle.nm_safety.proofs.Managed.{others_stay, planned_by}
use Rattle.nm_safety.proofs.Runs.{one_supported}
use Rattle.nm_rest_laws.specs.Steady.{IsSteady, IsAble}
use Rattle.nm_proto.specs.declared.message.Request.TheVariants.{OpenSession}
use Rattle.nm_history.specs.declared.event.DeviceEvent.TheVariants.{Entered, Asked, Lost, Advanced, Restarted}
use Rattle.nm_recovery.specs.Recovery.{verdict_in}
use Rattle.nm_proto.specs.Plan.{devices_in}
use Rattle.nm_safety.specs.Cases.{Answers, Cases, IsLink, IsOperating}
use Rattle.nm_safety.specs.Keeping.{AreKept}
use Rattle.nm_safety.proofs.Cases.{comes}
use Rattle.nm_safety.proofs.Current.{OfCurrent, OfNone, one_current}
use Rattle.nm_safety.proofs.Lists.{at_set, down, one_longer, set_none, some_is, to_some}
use Rattle.nm_safety.proofs.Numbers.{is_entry}
use Rattle.nm_safety.proofs.Places.{set_same}
use Rattle.nm_safety.proofs.Tickets.{one_tickets}
use Rattle.nm_rest_laws.proofs.rest.Closer.{set_relates, Fewer}
use Rattle.nm_rest_laws.proofs.rest.Ended.{lost_closed}
use Rattle.nm_rest_laws.proofs.rest.Moves.{IsGoing, one_able}
use Rattle.nm_rest_laws.proofs.rest.Serving.{IsReplied, asked_so, entered_so, opens_told, plain_by}
use Rattle.nm_rest_laws.proofs.rest.Holding.{HasOpen, OperatorHolds, given_of, IsHeld, AllHeld, same_carries, cut_carries, told_carries, new_there, lost_carries, on_wires, wires_there, all_wires, wire_at}
use Rattle.nm_rest_laws.proofs.rest.Relating.{Sides, SlotsCarry, anew_on, broken_on, map_sides, received_on, renewed_on, sent_on, set_slot}

pub no_steady : IsSteady no_links
no_steady = record { current = λ is. absurd (let f : false ≡ true = is in cc); each = λ place. tt }

abbrev pub IsWide : {Config Node : Type 0} → List (RecordedState Config Node) → List (Option ℕ) → Type 0
IsWide devices operator = (j : ℕ) → is_some (slice_get operator j) ≡ is_some (slice_get devices j)

set_some : {A : Type 0} (xs : List A) (i : ℕ) (x : A) (j : ℕ) → is_some (slice_get (slice_set xs i x) j) ≡ is_some (slice_get xs j)
set_some [] i x j = refl
set_some (y ∷ xs) zero x zero = refl
set_some (y ∷ xs) zero x (suc j) = refl
set_some (y ∷ xs) (suc i) x zero = refl
set_some (y ∷ xs) (suc i) x (suc j) = set_some xs i x j

-- what is kept of a world in which so many events have happened
pub record IsLasting {Config TheEdit Node : Type 0} (m : Meaning Config TheEdit Node) (setting : Setting TheEdit) (n : ℕ) (w : CoreState Config Node) : Type 0 where
  pub supported : IsSupported m setting w
  pub going : IsGoing setting.plans (manager_in w)
  pub current : AreKept setting OfCurrent OfNone w
  pub held : (d : ℕ) → IfSome (slice_get w.devices d) (AllHeld w.slots w.operators d)
  pub last : (d : ℕ) → IfSome (slice_get w.devices d) (λ r. r.device.sessions.last ≤ n)
  -- an operator has a place for each device
  pub wide : (o : ℕ) → IfSome (slice_get w.operators o) (IsWide w.devices)

-- who has the sessions of devices, and how many there were
record IsHolding {Config Node : Type 0} (n : ℕ) (devices : List (RecordedState Config Node)) (slots : List SlotState) (operators : List (List (Option ℕ))) : Type 0 where
  held : (d : ℕ) → IfSome (slice_get devices d) (AllHeld slots operators d)
  last : (d : ℕ) → IfSome (slice_get devices d) (λ r. r.device.sessions.last ≤ n)
  wide : (o : ℕ) → IfSome (slice_get operators o) (IsWide devices)

module _ {Config TheEdit Node : Type 0} (m : Meaning Config TheEdit Node) (setting : Setting TheEdit) (n : ℕ) (w : CoreState Config Node) (k : IsLasting m setting n w) where
  abbrev After : List (RecordedState Config Node) → List SlotState → List (List (Option ℕ)) → Type 0
  After = IsHolding (suc n)

  more : (a b : ℕ) → a ≤ b → a ≤ suc b
  more a b h = omega (arith, h)

  last_more : (d : ℕ) → IfSome (slice_get w.devices d) (λ r. r.device.sessions.last ≤ suc n)
  last_more d = to_some (λ r. r.device.sessions.last ≤ suc n) (slice_get w.devices d) (λ r here. more r.device.sessions.last n (some_is r (λ one. one.device.sessions.last ≤ n) (slice_get w.devices d) here (k.last d)))

  same_after : After w.devices w.slots w.operators
  same_after = record { held = k.held; last = last_more; wide = k.wide }

  -- ---- the manager

  carried : (slots : List SlotState) → SlotsCarry w.slots slots → (d t : ℕ) → IsHeld w.slots w.operators d t → IsHeld slots w.operators d t
  carried slots r d t (inl (p, (l, h))) = inl (p, (l, r p d l t h))
  carried slots r d t (inr h) = inr h

  slots_after : (slots : List SlotState) → SlotsCarry w.slots slots → After w.devices slots w.operators
  slots_after slots r = record {
    held = λ d. to_some (AllHeld slots w.operators d) (slice_get w.devices d) (λ one here t is. carried slots r d t (some_is one (AllHeld w.slots w.operators d) (slice_get w.devices d) here (k.held d) t is));
    last = last_more;
    wide = k.wide;
  }

  slot_after : (change : ℕ) (slot new : SlotState) → slice_get w.slots (change - 1) ≡ Some slot → Sides slot.sides new.sides
      → After w.devices (slice_set w.slots (change - 1) new) w.operators
  slot_after change slot new there r = slots_after (slice_set w.slots (change - 1) new) (set_slot w.slots (change - 1) slot new there r)

  -- ---- a device

  numbered_at : (d : ℕ) (r : RecordedState Config Node) → slice_get w.devices d ≡ Some r → IsNumbered r.device
  numbered_at d r here = (some_is r (IsDevice m (k.supported.owners d)) (slice_get w.devices d) here (k.supported.devices d)).numbered

  -- what stays held at a device where these sessions are open then
  abbrev StaysAt : (d0 : ℕ) → RecordedState Config Node → ℕ → WireState → WireState → Type 0
  StaysAt d0 after d old new = (l t : ℕ) → (d ≡ d0 → is_open after.device.sessions t ≡ true) → HasOpen (slice_get old.links l) t → HasOpen (slice_get new.links l) t

  stays_same : (d0 : ℕ) (after : RecordedState Config Node) (d : ℕ) (wire : WireState) → StaysAt d0 after d wire wire
  stays_same d0 after d wire l t is h = h

  module _ (d0 : ℕ) (r after : RecordedState Config Node) (here : slice_get w.devices d0 ≡ Some r) (slots : List SlotState) (operators : List (List (Option ℕ)))
      (links : (p d : ℕ) → StaysAt d0 after d (wire_at (slice_get w.slots p) d) (wire_at (slice_get slots p) d))
      (given : (d t : ℕ) → (d ≡ d0 → is_open after.device.sessions t ≡ true) → OperatorHolds w.operators d t → IsHeld slots operators d t)
      (opens : (t : ℕ) → is_open after.device.sessions t ≡ true → (is_open r.device.sessions t ≡ true) ⊎ IsHeld slots operators d0 t)
      (few : after.device.sessions.last ≤ r.device.sessions.last + 1) (wide : (o : ℕ) → IfSome (slice_get operators o) (IsWide w.devices)) where
    held_on : (d t : ℕ) → (d ≡ d0 → is_open after.device.sessions t ≡ true) → IsHeld w.slots w.operators d t → IsHeld slots operators d t
    held_on d t is (inl (p, (l, h))) = inl (p, (l, links p d l t is h))
    held_on d t is (inr h) = given d t is h

    held_here : (t : ℕ) → is_open after.device.sessions t ≡ true → (is_open r.device.sessions t ≡ true) ⊎ IsHeld slots operators d0 t → IsHeld slots operators d0 t
    held_here t is (inl before) = held_on d0 t (λ e. is) (some_is r (AllHeld w.slots w.operators d0) (slice_get w.devices d0) here (k.held d0) t before)
    held_here t is (inr held_now) = held_now

    device_held : (d : ℕ) → IfSome (slice_get (slice_set w.devices d0 after) d) (AllHeld slots operators d)
    device_held d = others_stay (λ j o. IfSome o (AllHeld slots operators j)) w.devices d0 r after here (λ t is. held_here t is (opens t is))
        (λ j ne. to_some (AllHeld slots operators j) (slice_get w.devices j) (λ one there t is. held_on j t (λ e. absurd (ne e)) (some_is one (AllHeld w.slots w.operators j) (slice_get w.devices j) there (k.held j) t is))) d

    device_last : (d : ℕ) → IfSome (slice_get (slice_set w.devices d0 after) d) (λ one. one.device.sessions.last ≤ suc n)
    device_last d = at_set (λ j one. one.device.sessions.last ≤ suc n) w.devices d0 r after here
        (let before : r.device.sessions.last ≤ n = some_is r (λ one. one.device.sessions.last ≤ n) (slice_get w.devices d0) here (k.last d0) in omega (arith, few, before)) last_more d

    device_after : After (slice_set w.devices d0 after) slots operators
    device_after = record {
      held = device_held;
      last = device_last;
      wide = λ o. to_some (IsWide (slice_set w.devices d0 after)) (slice_get operators o) (λ one found j. some_is one (IsWide w.devices) (slice_get operators o) found (wide o) j ∙ sym (set_some w.devices d0 after j));
    }

  given_same : (d0 : ℕ) (after : RecordedState Config Node) (slots : List SlotState) (d t : ℕ) → (d ≡ d0 → is_open after.device.sessions t ≡ true) → OperatorHolds w.operators d t → IsHeld slots w.operators d t
  given_same d0 after slots d t is h = inr h

  -- ---- a device alone: time, and the end of a session

  alone_after : (device : ℕ) (r : RecordedState Config Node) → slice_get w.devices (device - 1) ≡ Some r → (event : DeviceEvent) (h : Happened Config Node) → Happens m setting.tables r.device event h
      → is_entry event ≡ false → After (slice_set w.devices (device - 1) (recorded_with r event h)) w.slots w.operators
  alone_after device r here event h happens none =
      device_after (device - 1) r (recorded_with r event h) here w.slots w.operators (λ p d. stays_same (device - 1) (recorded_with r event h) d (wire_at (slice_get w.slots p) d))
      (given_same (device - 1) (recorded_with r event h) w.slots) (λ t is. inl (plain_by m setting.tables r.device (numbered_at (device - 1) r here) event h happens none t is))
      (opens_told m setting.tables r.device (numbered_at (device - 1) r here) event h happens).last k.wide

  -- ---- a link and its device

  module _ (change device link : ℕ) (a : IsLink w change device link) where
    abbrev links : WireState
    links = a.side.wire

    steady : IsSteady links
    steady =
        some_is a.side (λ one. IsSteady one.wire) (slice_get a.slot.sides (device - 1)) a.at_side
        ((some_is a.slot (IsAble (suc (change - 1)) w.entries) (slice_get w.slots (change - 1)) a.there (k.going.slots (change - 1))).wires (device - 1))

    at_session : (session : ℕ) → session_of a.one ≡ Some session → session_at links link ≡ Some session
    at_session session is = ap (option_and_then session_of) a.at_link ∙ is

    abbrev numbered_here : IsNumbered a.r.device
    numbered_here = numbered_at (device - 1) a.r a.here

    -- a request is delivered
    module _ (request : Request) (out : outstanding_at links link ≡ Some request) (reply : Reply) (after : RecordedState Config Node) (replied : IsReplied a.r (session_at links link) request reply after) where
      abbrev told_slots : List SlotState
      told_slots = slice_set w.slots (change - 1) (wires_on (told_wire link reply) a.slot device (Some a.side))

      new_or : (t : ℕ) → (is_open a.r.device.sessions t ≡ true) ⊎ ((is_opening request ≡ true) × ((reply ≡ Opened t) × (t ≡ a.r.device.sessions.last + 1)))
          → (is_open a.r.device.sessions t ≡ true) ⊎ IsHeld told_slots w.operators (device - 1) t
      new_or t (inl before) = inl before
      new_or t (inr new) =
          inr (inl (
            change - 1,
            (
              link - 1,
              subst (λ wire. HasOpen (slice_get wire.links (link - 1)) t) (sym (wires_there (told_wire link reply) device w.slots (change - 1) a.slot a.there a.side a.at_side))
                  (new_there after a.r request reply links link steady out new.0 t new.1.0),
            ),
          ))

      told_after : After (slice_set w.devices (device - 1) after) told_slots w.operators
      told_after =
          device_after (device - 1) a.r after a.here told_slots w.operators
          (on_wires (StaysAt (device - 1) after) (stays_same (device - 1) after) (told_wire link reply) device w.slots (change - 1) a.slot a.there a.side a.at_side
          (λ l t is. told_carries after a.r request reply links link steady out replied l t (is refl)))
          (given_same (device - 1) after told_slots) (λ t is. new_or t (replied.more t is)) replied.last k.wide

    asked_after : (request : Request) → outstanding_at links link ≡ Some request → opening_user request ≡ None → (session : ℕ) → session_of a.one ≡ Some session → (d : Answers m setting a.r (Asked session request))
        → After (slice_set w.devices (device - 1) (recorded_with a.r (Asked session request) d.h)) (slice_set w.slots (change - 1) (wires_on (told_wire link d.reply) a.slot device (Some a.side))) w.operators
    asked_after request out plain session is d =
        told_after request out d.reply (recorded_with a.r (Asked session request) d.h)
        (asked_so m setting.tables a.r numbered_here (session_at links link) d.h d.reply d.replies session (at_session session is) request plain d.happens)

    opened_after : (user : List ℕ) → outstanding_at links link ≡ Some (OpenSession user) → (d : Answers m setting a.r (Entered user))
        → After (slice_set w.devices (device - 1) (recorded_with a.r (Entered user) d.h)) (slice_set w.slots (change - 1) (wires_on (told_wire link d.reply) a.slot device (Some a.side))) w.operators
    opened_after user out d =
        told_after (OpenSession user) out d.reply (recorded_with a.r (Entered user) d.h)
        (entered_so m setting.tables a.r numbered_here (session_at links link) d.h d.reply d.replies user d.happens)

    -- its side ends
    abbrev lost_slots : List SlotState
    lost_slots = slice_set w.slots (change - 1) (wires_on (lost_wire link) a.slot device (Some a.side))

    gone_after : (after : RecordedState Config Node) → Fewer a.r after → after.device.sessions.last ≤ a.r.device.sessions.last + 1
        → ((u : ℕ) → session_at links link ≡ Some u → is_open after.device.sessions u ≡ false) → After (slice_set w.devices (device - 1) after) lost_slots w.operators
    gone_after after fewer few closed =
        device_after (device - 1) a.r after a.here lost_slots w.operators
        (on_wires (StaysAt (device - 1) after) (stays_same (device - 1) after) (lost_wire link) device w.slots (change - 1) a.slot a.there a.side a.at_side
        (λ l t is. lost_carries after links link closed l t (is refl)))
        (given_same (device - 1) after lost_slots) (λ t is. inl (fewer t is)) few k.wide

    lost_after : (session : ℕ) → session_of a.one ≡ Some session → (h : Happened Config Node) → Happens m setting.tables a.r.device (Lost session) h
        → After (slice_set w.devices (device - 1) (recorded_with a.r (Lost session) h)) lost_slots w.operators
    lost_after session is h happens =
        gone_after (recorded_with a.r (Lost session) h) (plain_by m setting.tables a.r.device numbered_here (Lost session) h happens refl)
        (opens_told m setting.tables a.r.device numbered_here (Lost session) h happens).last
        (λ u at.
        subst (λ t. is_open h.after.sessions t ≡ false) (same_Some session u (sym (at_session session is) ∙ at)) (lost_closed m a.r session setting.tables h happens))

    closed_after : session_of a.one ≡ None → After w.devices lost_slots w.operators
    closed_after is =
        subst (λ devices. After devices lost_slots w.operators) (set_same w.devices (device - 1) a.r a.here)
        (gone_after a.r (λ t at. at) (omega arith) (λ u at. absurd (none-some u (sym (ap (option_and_then session_of) a.at_link ∙ is) ∙ at))))

  -- ---- a device restarts

  restarted_after : (device : ℕ) (r : RecordedState Config Node) → slice_get w.devices (device - 1) ≡ Some r
      → After (slice_set w.devices (device - 1) (recorded_with r Restarted (restarting m r.device))) (map (restarted_slot device) w.slots) w.operators
  restarted_after device r here =
      let after : RecordedState Config Node = recorded_with r Restarted (restarting m r.device) in
      device_after (device - 1) r after here (map (restarted_slot device) w.slots) w.operators
      (all_wires (StaysAt (device - 1) after) (stays_same (device - 1) after) restarted device w.slots
      (λ slot l t is h. absurd (let f : false ≡ true = sym (restart_closes m setting.tables r.device (restarting m r.device) refl t) ∙ is refl in cc)))
      (given_same (device - 1) after (map (restarted_slot device) w.slots))
      (λ t is. absurd (let f : false ≡ true = sym (restart_closes m setting.tables r.device (restarting m r.device) refl t) ∙ is in cc))
      (opens_told m setting.tables r.device (numbered_at (device - 1) r here) Restarted (restarting m r.device) refl).last k.wide

  -- ---- an operator asks

  module _ (number device : ℕ) (a : IsOperating w number device) where
    abbrev d : ℕ
    d = device - 1

    operator_wide : IsWide w.devices a.operator
    operator_wide = some_is a.operator (IsWide w.devices) (slice_get w.operators (number - 1)) a.there (k.wide (number - 1))

    wide_set : (now : List (Option ℕ)) → IsWide w.devices now → (o : ℕ) → IfSome (slice_get (slice_set w.operators (number - 1) now) o) (IsWide w.devices)
    wide_set now wide o = at_set (λ i. IsWide w.devices) w.operators (number - 1) a.operator now a.there wide k.wide o

    -- what it was given is as before, but for a session that it is given now
    given_still : (after : RecordedState Config Node) (now : List (Option ℕ)) → ((j t : ℕ) → (j ≡ d → is_open after.device.sessions t ≡ true) → given_on a.operator j ≡ Some t → given_on now j ≡ Some t)
        → (j t : ℕ) → (j ≡ d → is_open after.device.sessions t ≡ true) → OperatorHolds w.operators j t → IsHeld w.slots (slice_set w.operators (number - 1) now) j t
    given_still after now step j t is (o, e) =
        inr (o, set_relates (λ old new. given_of old j ≡ Some t → given_of new j ≡ Some t) (λ old h. h) w.operators (number - 1) a.operator now a.there (step j t is) o e)

    given_set : (after : RecordedState Config Node) (id : ℕ) → (given_open : (t : ℕ) → given_on a.operator d ≡ Some t → is_open after.device.sessions t ≡ true → t ≡ id)
        → (j t : ℕ) → (j ≡ d → is_open after.device.sessions t ≡ true) → given_on a.operator j ≡ Some t → (old : Option (Option ℕ)) → slice_get a.operator d ≡ old → given_on (slice_set a.operator d (Some id)) j ≡ Some t
    given_set after id given_open j t is e None at = ap (λ list. given_on list j) (set_none a.operator d (Some id) at) ∙ e
    given_set after id given_open j t is e (Some old) at =
        others_stay (λ i o. (i ≡ d → is_open after.device.sessions t ≡ true) → given_on a.operator i ≡ Some t → given_in o ≡ Some t) a.operator d old (Some id) at
        (λ own g. ap Some (sym (given_open t g (own refl)))) (λ i ne own g. g) j is e

    -- it is given none
    plain_after : (after : RecordedState Config Node) → after.device.sessions.last ≤ a.r.device.sessions.last + 1 → Fewer a.r after
        → After (slice_set w.devices d after) w.slots (slice_set w.operators (number - 1) a.operator)
    plain_after after few fewer =
        device_after d a.r after a.here w.slots (slice_set w.operators (number - 1) a.operator) (λ p j. stays_same d after j (wire_at (slice_get w.slots p) j))
        (given_still after a.operator (λ j t is g. g)) (λ t is. inl (fewer t is)) few (wide_set a.operator operator_wide)

    -- with its session
    operator_asks : (request : Request) → opening_user request ≡ None → (session : ℕ) (e : Answers m setting a.r (Asked session request))
        → After (slice_set w.devices d (recorded_with a.r (Asked session request) e.h)) w.slots (slice_set w.operators (number - 1) (with_opened a.operator d e.reply))
    operator_asks request plain session e =
        let after : RecordedState Config Node = recorded_with a.r (Asked session request) e.h in
        let replied : IsReplied a.r (Some session) request e.reply after =
        asked_so m setting.tables a.r (numbered_at d a.r a.here) (Some session) e.h e.reply e.replies session refl request plain e.happens in
        subst (λ opened. After (slice_set w.devices d after) w.slots (slice_set w.operators (number - 1) (with_session a.operator d opened))) (sym (replied.plain (ap is_some plain)))
        (plain_after after replied.last (plain_by m setting.tables a.r.device (numbered_at d a.r a.here) (Asked session request) e.h e.happens refl))

    -- for one under its own name, where it has none
    module _ (user : List ℕ) (free : has_on a.operator a.r d ≡ None) (e : Answers m setting a.r (Entered user)) where
      abbrev after : RecordedState Config Node
      after = recorded_with a.r (Entered user) e.h

      replied : IsReplied a.r None (OpenSession user) e.reply after
      replied = entered_so m setting.tables a.r (numbered_at d a.r a.here) None e.h e.reply e.replies user e.happens

      not_given : (t : ℕ) → given_on a.operator d ≡ Some t → is_open a.r.device.sessions t ≡ false
      not_given t g = by_open (is_open a.r.device.sessions t) refl
        where
          by_open : (b : Bool) → is_open a.r.device.sessions t ≡ b → b ≡ false
          by_open false f = refl
          by_open true f = absurd (let h : Some t ≡ None = sym (ap (open_on a.r) g ∙ ap (λ b. cond b (Some t) None) f) ∙ free in cc)

      abbrev IsNewOr : ℕ → Type 0
      IsNewOr t = (is_open a.r.device.sessions t ≡ true) ⊎ ((is_opening (OpenSession user) ≡ true) × ((e.reply ≡ Opened t) × (t ≡ a.r.device.sessions.last + 1)))

      abbrev Now : Option ℕ → Type 0
      Now opened = After (slice_set w.devices d after) w.slots (slice_set w.operators (number - 1) (with_session a.operator d opened))

      opened_now : (opened : Option ℕ) → session_in e.reply ≡ opened → Now opened
      opened_now None f = plain_after after replied.last (λ t is. old_only t (replied.more t is))
        where
          old_only : (t : ℕ) → IsNewOr t → is_open a.r.device.sessions t ≡ true
          old_only t (inl before) = before
          old_only t (inr new) = absurd (none-some t (sym f ∙ ap session_in new.1.0))
      opened_now (Some id) f =
          device_after d a.r after a.here w.slots (slice_set w.operators (number - 1) (slice_set a.operator d (Some id))) (λ p j. stays_same d after j (wire_at (slice_get w.slots p) j))
          (given_still after (slice_set a.operator d (Some id)) (λ j t is g. given_set after id given_id j t is g (slice_get a.operator d) refl)) (λ t is. new_or_held t (replied.more t is)) replied.last
          (wide_set (slice_set a.operator d (Some id)) (λ j. set_some a.operator d (Some id) j ∙ operator_wide j))
        where
          same_id : (t : ℕ) → e.reply ≡ Opened t → t ≡ id
          same_id t is = same_Some t id (sym (ap session_in is) ∙ f)

          given_by : (t : ℕ) → given_on a.operator d ≡ Some t → IsNewOr t → t ≡ id
          given_by t g (inl before) = absurd (let h : true ≡ false = sym before ∙ not_given t g in cc)
          given_by t g (inr new) = same_id t new.1.0

          given_id : (t : ℕ) → given_on a.operator d ≡ Some t → is_open after.device.sessions t ≡ true → t ≡ id
          given_id t g is = given_by t g (replied.more t is)

          given_here : (old : Option (Option ℕ)) → slice_get a.operator d ≡ old → given_on (slice_set a.operator d (Some id)) d ≡ Some id
          given_here None at = absurd (let g : false ≡ true = sym (ap is_some at) ∙ operator_wide d ∙ ap is_some a.here in cc)
          given_here (Some old) at = ap given_in (set_there a.operator d old (Some id) at)

          new_or_held : (t : ℕ) → IsNewOr t → (is_open a.r.device.sessions t ≡ true) ⊎ IsHeld w.slots (slice_set w.operators (number - 1) (slice_set a.operator d (Some id))) d t
          new_or_held t (inl before) = inl before
          new_or_held t (inr new) =
              inr (inr (
                number - 1,
                ap (λ o. given_of o d) (set_there w.operators (number - 1) a.operator (slice_set a.operator d (Some id)) a.there) ∙ given_here (slice_get a.operator d) refl
                    ∙ ap Some (sym (same_id t new.1.0)),
              ))

      operator_enters : Now (session_in e.reply)
      operator_enters = opened_now (session_in e.reply) refl

  -- ---- each kind of step

  planned_all : (j : ℕ) → is_some (slice_get w.slots j) ≡ true → is_some (slice_get setting.plans j) ≡ true
  planned_all j is = by_slot (slice_get w.slots j) refl is
    where
      by_slot : (slot : Option SlotState) → slice_get w.slots j ≡ slot → is_some slot ≡ true → is_some (slice_get setting.plans j) ≡ true
      by_slot None there is = absurd (let f : false ≡ true = is in cc)
      by_slot (Some slot) there is = planned_by m setting w k.supported (suc j) (omega arith) slot (is_some (slice_get setting.plans j) ≡ true) (down w.slots j ∙ there)
          (λ plan planned. ap is_some (sym (down setting.plans j) ∙ planned)) (slice_get setting.plans (suc j - 1)) refl

  abbrev Holds : Event → Came Config Node → Type 0
  Holds event c = After c.after.devices c.after.slots c.after.operators

  holds : Cases m setting w Holds
  holds = record {
    nothing = λ event. same_after;
    starts = λ change numbered plan planned may. same_after;
    decides = λ change a ready v acts may.
        slot_after change a.slot (decided a.slot v) a.there (map_sides (anew (is_commit v)) (λ side. same_carries side.wire) a.slot.sides);
    finishes = λ change a ready kept acts may. same_after;
    sends_out = λ change a ready device what acts.
        slot_after change a.slot (sends a.plan w.entries a.slot device what).slot a.there (sent_on a.slot a.plan w.entries device what);
    renews_timer = λ change device a known ready.
        slot_after change a.slot (renews a.plan w.entries a.slot device).slot a.there (renewed_on a.slot a.plan w.entries device);
    hears = λ change device link number a known.
        slot_after change a.slot (receives a.slot device link number).slot a.there (received_on a.slot device link number);
    breaks_off = λ change device a known. slot_after change a.slot (breaks a.slot device).slot a.there (broken_on a.slot device);
    forgets = λ change a begun going.
        slot_after change a.slot (lost_memory a.slot (devices_in a.plan.edits) (verdict_in change w.entries)) a.there
        (map_sides (cut_off (to_commit (verdict_in change w.entries))) (λ side. cut_carries side.wire) a.slot.sides);
    crashes = slots_after (start_anew w.entries 1 setting.plans w.slots) (anew_on w.entries 1 setting.plans w.slots planned_all);
    tells = λ change device link a request out plain session is e. asked_after change device link a request out plain session is e;
    opens = λ change device link a user out e. opened_after change device link a user out e;
    loses_session = λ change device link a opened session is h happens. lost_after change device link a session is h happens;
    closes = λ change device link a opened is. closed_after change device link a is;
    restarts = λ device r here. restarted_after device r here;
    passes = λ device seconds r here. alone_after device r here (Advanced seconds) (advancing m r.device seconds) refl refl;
    asks = λ number device a request plain session given opened e. operator_asks number device a request plain session e;
    enters = λ number device a user own free e. operator_enters number device a user free e;
    leaves = λ number device a session given opened h happens. alone_after device a.r a.here (Lost session) h happens refl;
  }

module _ {Config TheEdit Node : Type 0} (m : Meaning Config TheEdit Node) (laws : Laws m) (setting : Setting TheEdit) (edits : All m.edit_belongs setting.tables.edits) (few : length setting.plans ≤ 64)
    (strangers : (number : ℕ) → IfSome (slice_get setting.users number) (λ user. is_manager (Some user) ≡ false)) where
  abbrev pub Lasts : WorldState Config Node → Type 0
  Lasts w = IsLasting m setting (length w.trail) (core_of w)

  -- each event keeps it
  pub one_lasts : (w : WorldState Config Node) (event : Event) → IsGiven setting event → Lasts w → Lasts (world_step m setting w event)
  one_lasts w event given k =
      let s = one_supported m laws setting edits few strangers w event given k.supported in
      let now = comes m setting (core_of w) (Holds m setting (length w.trail) (core_of w) k) (holds m setting (length w.trail) (core_of w) k) event given in
      let current = one_current m setting laws edits few strangers w event given k.supported s k.current in
      let grown : length (world_step m setting w event).trail ≡ suc (length w.trail) = one_longer w.trail _ in
      subst (λ n. IsLasting m setting n (core_of (world_step m setting w event))) (sym grown)
      (record {
        supported = s;
        going = record {
          slots = one_able m setting laws edits few strangers w event given k.supported s current k.going.slots;
          tickets = one_tickets m setting w event given k.going.tickets;
        };
        current = current;
        held = now.held;
        last = now.last;
        wide = now.wide;
      })
