-- What every world keeps where a request of a link comes to its device.
use Rattle.std.proofs.Common.{◌≡◌, ◌∙◌, ◌⊎◌, inl, inr, ℕ, suc, ◌-◌, ◌≤◌, ◌<◌, ◌^◌, ◌==◌, Bool, true, false, not, ◌&&◌, ◌||◌, List, Option, Some, None, IfSome, slice_get, slice_set, refl, sym, ap, subst, arith}
use Rattle.std.specs.List.{All}
use Rattle.std.specs.Str.{bytes_eq}
use Rattle.nm_base.specs.Token.{token_of}
use Rattle.nm_base.proofs.Tokens.{token_told}
use Rattle.nm_proto.specs.declared.message.Request.{Request}
use Rattle.nm_proto.specs.declared.message.Request.TheVariants.{OpenSession, Lock, Unlock, PartialLock, PartialUnlock, Edit, Validate, Commit, CancelCommit, Discard, HasMark, GetConfig, Kill, CloseSession}
use Rattle.nm_proto.specs.declared.message.Reply.{Reply}
use Rattle.nm_proto.specs.declared.journal.Verdict.{Verdict}
use Rattle.nm_proto.specs.declared.plan.ChangePlan.{ChangePlan}
use Rattle.nm_proto.specs.Content.{Meaning, Laws}
use Rattle.nm_proto.specs.Plan.{devices_in}
use Rattle.nm_sessions.specs.Sessions.{user_of}
use Rattle.nm_history.specs.declared.event.DeviceEvent.{DeviceEvent}
use Rattle.nm_history.specs.declared.event.DeviceEvent.TheVariants.{Asked}
use Rattle.nm_history.specs.History.{Happened, RecordedState, recorded_with}
use Rattle.nm_history.specs.Outcome.{is_token}
use Rattle.nm_recovery.specs.Recovery.{verdict_in}
use Rattle.nm_device_laws.specs.Moment.{Happens}
use Rattle.nm_device_laws.specs.Token.{names_token, leaves_token, may_name}
use Rattle.nm_device_laws.specs.Telling.{TellsToken}
use Rattle.nm_decider.specs.declared.seat.Seat.{Seat}
use Rattle.nm_wire.specs.Link.{LinkState, told_on}
use Rattle.nm_wire.specs.Wire as wire
use Rattle.nm_wire.specs.Wire.{WireState, told, link_at, outstanding_at, session_at}
use Rattle.nm_manager.specs.Slot.{SideState, SlotState, with_wire, told_wire}
use Rattle.nm_manager.specs.Manager.{with_slot}
use Rattle.nm_safety.specs.Pair.{PairHolds}
use Rattle.nm_safety.specs.Slots.{AllHold, HoldsAt}
use Rattle.nm_safety.specs.Delivered.{NamesOurs}
use Rattle.nm_safety.specs.Step.{is_fair}
use Rattle.nm_safety.proofs.Gone.{not_zero}
use Rattle.nm_safety.proofs.PairSteps.{wires_stay, told_as_before}
use Rattle.nm_safety.proofs.Wires.{changed_current, set_there}
use Rattle.nm_world.specs.World.{Setting, CoreState, manager_in, with_device, with_manager}
use Rattle.nm_safety.specs.Support.{Owners, IsOwned, IsLinked, AllLinks, IsAtRest, IsKept, KeptAt, IsDevice, IsOperator, IsSupported}
use Rattle.nm_safety.proofs.Lists.{some_is, to_some, at_set, set_other}
use Rattle.nm_safety.proofs.Ours.{all_links_map}
use Rattle.nm_safety.proofs.SlotLinks.{links_at}
use Rattle.nm_safety.proofs.Managed.{others_stay, kept_here}
use Rattle.nm_safety.proofs.Alone.{OpensFor}
use Rattle.nm_safety.proofs.Others.{IsOthers, linked_after, others_kept, devices_after, operator_after}

-- ---- tokens of others

-- a change set's own requests name no other's token
other_named : (k change : ℕ) → k < 2 ^ 32 → change < 2 ^ 32 → (k == change) ≡ false → (given : Option (List ℕ)) → IfSome given (λ token. token ≡ token_of change) → is_token (token_of k) given ≡ false
other_named k change small_k small ne None names = refl
other_named k change small_k small ne (Some given) names = ap (bytes_eq (token_of k)) names ∙ token_told k change small_k small ∙ ne

pub names_no_other : (k change : ℕ) → k < 2 ^ 32 → change < 2 ^ 32 → (k == change) ≡ false → (request : Request) → NamesOurs (token_of change) request → names_token (token_of k) request ≡ false
names_no_other k change small_k small ne (Commit confirmed timeout persist persist_id) names =
    neither (is_token (token_of k) persist) (is_token (token_of k) persist_id) (other_named k change small_k small ne persist names.0) (other_named k change small_k small ne persist_id names.1)
  where
    neither : (a b : Bool) → a ≡ false → b ≡ false → (a || b) ≡ false
    neither false b ea eb = eb
    neither true b ea eb = absurd (let g : true ≡ false = ea in cc)
names_no_other k change small_k small ne (CancelCommit persist_id) names = other_named k change small_k small ne persist_id names
names_no_other k change small_k small ne (OpenSession user) names = refl
names_no_other k change small_k small ne (Lock store) names = refl
names_no_other k change small_k small ne (Unlock store) names = refl
names_no_other k change small_k small ne (PartialLock select) names = refl
names_no_other k change small_k small ne (PartialUnlock id) names = refl
names_no_other k change small_k small ne (Edit edit operation marks) names = refl
names_no_other k change small_k small ne Validate names = refl
names_no_other k change small_k small ne Discard names = refl
names_no_other k change small_k small ne (HasMark mark) names = refl
names_no_other k change small_k small ne GetConfig names = refl
names_no_other k change small_k small ne (Kill other) names = refl
names_no_other k change small_k small ne CloseSession names = refl

pub no_name_leaves : {Config Node : Type 0} (token : List ℕ) (r : RecordedState Config Node) (session : ℕ) (request : Request) → names_token token request ≡ false → leaves_token token r.device (Asked session request) ≡ true
no_name_leaves token r session request e = ap (λ b. not (b && may_name token (user_of r.device.sessions session))) e

-- ---- a link is told

module _ {Config TheEdit Node : Type 0} (m : Meaning Config TheEdit Node) (laws : Laws m) (setting : Setting TheEdit) (edits : All m.edit_belongs setting.tables.edits) (w : CoreState Config Node) (s : IsSupported m setting w)
    (change device link : ℕ) (numbered : 1 ≤ change) (plan : ChangePlan) (planned : slice_get setting.plans (change - 1) ≡ Some plan) (slot : SlotState) (there : slice_get w.slots (change - 1) ≡ Some slot)
    (side : SideState) (at_side : slice_get slot.sides (device - 1) ≡ Some side) (l : LinkState) (at_link : link_at side.wire link ≡ Some l)
    (r : RecordedState Config Node) (here : slice_get w.devices (device - 1) ≡ Some r) (event : DeviceEvent) (h : Happened Config Node) (happens : Happens m setting.tables r.device event h) (request : Request) (reply : Reply)
    (out : outstanding_at side.wire link ≡ Some request) (now : ℕ → Owners)
    (same_there : (session : ℕ) → session ≤ r.device.sessions.last → now (device - 1) session ≡ s.owners (device - 1) session)
    (same_others : (j : ℕ) → (j ≡ device - 1 → ⊥) → (session : ℕ) → now j session ≡ s.owners j session)
    (opens : OpensFor (s.owners (device - 1)) (now (device - 1)) r event h.after)
    (pair : (v : Option Verdict) (seat : Seat) → PairHolds change v seat side.wire r → PairHolds change v seat (told side.wire link reply) (recorded_with r event h))
    (fair : is_fair (record { request = request; reply = reply }) ≡ true)
    (new_link : IsOwned change (now (device - 1)) h.after.sessions.last (link - 1) (told_on reply l))
    (own : TellsToken (token_of change) (recorded_with r event h))
    (others : (place : ℕ) (other : ChangePlan) → slice_get setting.plans place ≡ Some other → (suc place ≡ change → ⊥) → IsOthers (suc place) (s.owners (device - 1)) r event) where
  abbrev d : ℕ
  d = device - 1

  abbrev after : RecordedState Config Node
  after = recorded_with r event h

  abbrev new_devices : List (RecordedState Config Node)
  new_devices = slice_set w.devices d after

  abbrev members : ℕ
  members = devices_in plan.edits

  abbrev verdict_now : Option Verdict
  verdict_now = verdict_in change w.entries

  abbrev told_side : SideState
  told_side = with_wire side (told side.wire link reply)

  abbrev new_slot : SlotState
  new_slot = record { course = slot.course; sides = slice_set slot.sides d told_side }

  k : IsKept change members w.entries s.owners w.devices slot
  k = kept_here m setting w s change numbered plan slot planned there

  device_here : IsDevice m (s.owners d) r
  device_here = some_is r (IsDevice m (s.owners d)) (slice_get w.devices d) here (s.devices d)

  -- ---- its own change set

  holds_at : (seat : Option Seat) → HoldsAt change verdict_now seat (Some side) (Some r) → HoldsAt change verdict_now seat (Some told_side) (Some after)
  holds_at None holds = tt
  holds_at (Some seat) holds = pair verdict_now seat holds

  holds_here : HoldsAt change verdict_now (slice_get slot.course.seats d) (Some side) (Some r)
  holds_here =
      subst (λ o. HoldsAt change verdict_now (slice_get slot.course.seats d) (Some side) o) here
      (subst (λ o. HoldsAt change verdict_now (slice_get slot.course.seats d) o (slice_get w.devices d)) at_side (k.holds d))

  new_device_is : slice_get new_devices d ≡ Some after
  new_device_is = set_there w.devices d r after here

  all_hold : AllHold change verdict_now new_slot new_devices
  all_hold =
      others_stay (λ j o. HoldsAt change verdict_now (slice_get slot.course.seats j) o (slice_get new_devices j)) slot.sides d side told_side at_side
      (subst (λ o. HoldsAt change verdict_now (slice_get slot.course.seats d) (Some told_side) o) (sym new_device_is) (holds_at (slice_get slot.course.seats d) holds_here))
      (λ j ne. subst (λ o. HoldsAt change verdict_now (slice_get slot.course.seats j) (slice_get slot.sides j) o) (sym (set_other w.devices d j after ne)) (k.holds j))

  abbrev Before : ℕ → ℕ → LinkState → Type 0
  Before j = IsLinked change w.entries (s.owners j) (slice_get w.devices j)

  abbrev After : ℕ → ℕ → LinkState → Type 0
  After j = IsLinked change w.entries (now j) (slice_get new_devices j)

  other_links : AllLinks After slot.sides
  other_links =
      all_links_map Before After (linked_after m laws setting d r event h happens w.devices here s.owners now device_here same_there same_others change w.entries) slot.sides k.linked

  at_l : ((link == 0) ≡ false) × (slice_get side.wire.links (link - 1) ≡ Some l)
  at_l = not_zero (link == 0) (slice_get side.wire.links (link - 1)) l at_link

  begun_l : Before d (link - 1) l
  begun_l = some_is l (Before d (link - 1)) (slice_get side.wire.links (link - 1)) at_l.1 (links_at Before slot k.linked d side at_side (link - 1))

  told_links : (place : ℕ) → IfSome (slice_get (told side.wire link reply).links place) (After d place)
  told_links =
      subst (λ found. (place : ℕ) → IfSome (slice_get (wire.changed (told_on reply) side.wire link found).links place) (After d place)) (sym at_link)
      (at_set (After d) side.wire.links (link - 1) l (told_on reply l) at_l.1
      (record { begun = begun_l.begun; owned = subst (λ o. IfSome o (λ one. IsOwned change (now d) one.device.sessions.last (link - 1) (told_on reply l))) (sym new_device_is) new_link })
      (links_at_old d))
    where
      links_at_old : (j : ℕ) → (place : ℕ) → IfSome (slice_get side.wire.links place) (After d place)
      links_at_old j = some_is side (λ one. (place : ℕ) → IfSome (slice_get one.wire.links place) (After d place)) (slice_get slot.sides d) at_side (other_links d)

  new_links : AllLinks After new_slot.sides
  new_links = at_set (λ j one. (place : ℕ) → IfSome (slice_get one.wire.links place) (After j place)) slot.sides d side told_side at_side told_links other_links

  rest_by : IsAtRest change members w.entries slot → IsAtRest change members w.entries new_slot
  rest_by rest = record {
    ended = rest.ended;
    seats = rest.seats;
    cut = others_stay (λ j o. IfSome o (λ one. one.wire.current ≡ None)) slot.sides d side told_side at_side
        (changed_current (told_on reply) side.wire link (link_at side.wire link) ∙ some_is side (λ one. one.wire.current ≡ None) (slice_get slot.sides d) at_side (rest.cut d)) (λ j ne. rest.cut j);
  }

  known_by : (slot.course.verdict ≡ verdict_now) ⊎ IsAtRest change members w.entries slot → (slot.course.verdict ≡ verdict_now) ⊎ IsAtRest change members w.entries new_slot
  known_by (inl of_entries) = inl of_entries
  known_by (inr rest) = inr (rest_by rest)

  own_kept : IsKept change members w.entries now new_devices new_slot
  own_kept = record {
    numbered = k.numbered;
    in_step = wires_stay change members w.entries slot (told_wire link reply) device k.in_step (Some side) at_side (told_as_before side.wire link request reply out fair);
    known = known_by k.known;
    holds = all_hold;
    linked = new_links;
    tells = others_stay (λ j o. IfSome o (TellsToken (token_of change))) w.devices d r after here own (λ j ne. k.tells j);
  }

  -- ---- the others

  other_kept : (place : ℕ) → (suc place ≡ change → ⊥) → (found : Option ChangePlan) → slice_get setting.plans place ≡ found → (one : Option SlotState) → KeptAt (suc place) w.entries s.owners w.devices found one
      → KeptAt (suc place) w.entries now new_devices found one
  other_kept place ne None e None kept = kept
  other_kept place ne None e (Some one) kept = kept
  other_kept place ne (Some other) e None kept = kept
  other_kept place ne (Some other) e (Some one) kept =
      others_kept m laws setting d r event h happens w.devices here s.owners now device_here same_there same_others (suc place) w.entries (devices_in other.edits) one kept (others place other e ne)

  same_number : suc (change - 1) ≡ change
  same_number = omega (arith, numbered)

  pub told_supported : IsSupported m setting (with_manager (with_device w device after) (with_slot (manager_in w) change new_slot))
  told_supported = record {
    owners = now;
    entries = s.entries;
    devices = devices_after m laws setting d r event h happens w.devices here s.owners now device_here same_there same_others edits opens s.devices;
    slots = others_stay (λ j found. KeptAt (suc j) w.entries now new_devices (slice_get setting.plans j) found) w.slots (change - 1) slot new_slot there
        (subst (λ o. KeptAt (suc (change - 1)) w.entries now new_devices o (Some new_slot)) (sym planned) (subst (λ c. IsKept c members w.entries now new_devices new_slot) (sym same_number) own_kept))
        (λ j ne. other_kept j (λ e. ne (before j e)) (slice_get setting.plans j) refl (slice_get w.slots j) (s.slots j));
    operators = λ number.
        to_some (IsOperator now new_devices) (slice_get w.operators number)
        (λ operator found.
        operator_after m laws setting d r event h happens w.devices here s.owners now device_here same_there same_others operator
        (some_is operator (IsOperator s.owners w.devices) (slice_get w.operators number) found (s.operators number)));
  }
    where
      before : (j : ℕ) → suc j ≡ change → j ≡ change - 1
      before j e = omega (arith, e)
