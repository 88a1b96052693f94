-- What every world keeps where time passes, a device restarts, or a session is lost.
use Rattle.std.proofs.Common.{ℕ, ◌≡◌, ◌∙◌, ◌⊎◌, inl, inr, suc, ◌-◌, ◌≤◌, ◌<◌, true, false, List, Option, Some, None, IfSome, option_map, slice_get, slice_set, refl, sym, ap, subst, arith}
use Rattle.std.specs.List.{All}
use Rattle.std.proofs.lemmas.Option.{slice_get-map}
use Rattle.nm_proto.specs.declared.journal.Entry.{Entry}
use Rattle.nm_proto.specs.declared.plan.ChangePlan.{ChangePlan}
use Rattle.nm_proto.specs.Content.{Meaning, Laws}
use Rattle.nm_proto.specs.Plan.{devices_in}
use Rattle.nm_history.specs.declared.event.DeviceEvent.{DeviceEvent}
use Rattle.nm_history.specs.declared.event.DeviceEvent.TheVariants.{Entered}
use Rattle.nm_history.specs.History.{Happened, RecordedState, recorded_with}
use Rattle.nm_recovery.specs.Recovery.{verdict_in}
use Rattle.nm_device_laws.specs.Moment.{Happens}
use Rattle.nm_device_laws.proofs.Numbers.{numbers_rise}
use Rattle.nm_decider.specs.declared.seat.Seat.{Seat}
use Rattle.nm_wire.specs.Link.{LinkState, closed_link}
use Rattle.nm_wire.specs.Wire.{WireState, restarted, link_at}
use Rattle.nm_manager.specs.Slot.{SideState, SlotState, with_wire, wires_on, lost_wire, restarted_slot}
use Rattle.nm_manager.specs.Manager.{restarted_on, with_slot}
use Rattle.nm_safety.specs.Pair.{PairHolds}
use Rattle.nm_safety.specs.Slots.{HoldsAt}
use Rattle.nm_safety.proofs.Pairs.{IsAsBefore}
use Rattle.nm_safety.proofs.PairSteps.{wires_stay, lost_as_before, restarted_as_before}
use Rattle.nm_safety.proofs.Wires.{changed_current}
use Rattle.nm_safety.proofs.Cut.{closed_pair, restarted_pair}
use Rattle.nm_world.specs.World.{Setting, CoreState, manager_in, with_manager}
use Rattle.nm_safety.specs.Support.{Owners, IsLinked, AllLinks, IsAtRest, IsKept, KeptAt, IsDevice, IsSupported}
use Rattle.nm_safety.proofs.Lists.{some_is}
use Rattle.nm_safety.proofs.Ours.{closed_linked}
use Rattle.nm_safety.proofs.SlotLinks.{closed_links, restarted_links}
use Rattle.nm_safety.proofs.Managed.{others_stay, slot_moves, kept_here, planned_by}
use Rattle.nm_safety.specs.Keeping.{is_silent}
use Rattle.nm_safety.proofs.Others.{others_supported}
use Rattle.nm_safety.proofs.Facts.{silent_others}

-- ---- the device's side of links ends

module _ {Config Node : Type 0} (change members : ℕ) (entries : List Entry) (owners : ℕ → Owners) (devices : List (RecordedState Config Node)) (slot : SlotState) (k : IsKept change members entries owners devices slot)
    (happens : WireState → WireState) (device : ℕ) (same : (links : WireState) → IsAsBefore links (happens links)) (current : (links : WireState) → (happens links).current ≡ links.current)
    (step : (seat : Seat) (links : WireState) (r : RecordedState Config Node) → PairHolds change (verdict_in change entries) seat links r → PairHolds change (verdict_in change entries) seat (happens links) r)
    (linked : AllLinks (λ d. IsLinked change entries (owners d) (slice_get devices d)) (wires_on happens slot device (slice_get slot.sides (device - 1))).sides) where
  abbrev P : ℕ → ℕ → LinkState → Type 0
  P d = IsLinked change entries (owners d) (slice_get devices d)

  step_at : (side : SideState) (seat : Option Seat) (r : Option (RecordedState Config Node)) → HoldsAt change (verdict_in change entries) seat (Some side) r
      → HoldsAt change (verdict_in change entries) seat (Some (with_wire side (happens side.wire))) r
  step_at side seat None holds = tt
  step_at side None (Some r) holds = tt
  step_at side (Some seat) (Some r) holds = step seat side.wire r holds

  as_before : (found : Option SideState) → IfSome found (λ side. IsAsBefore side.wire (happens side.wire))
  as_before None = tt
  as_before (Some side) = same side.wire

  rest_by : (side : SideState) → slice_get slot.sides (device - 1) ≡ Some side → IsAtRest change members entries slot
      → IsAtRest change members entries (record { course = slot.course; sides = slice_set slot.sides (device - 1) (with_wire side (happens side.wire)) })
  rest_by side there rest = record {
    ended = rest.ended;
    seats = rest.seats;
    cut = others_stay (λ j o. IfSome o (λ one. one.wire.current ≡ None)) slot.sides (device - 1) side (with_wire side (happens side.wire)) there
        (current side.wire ∙ some_is side (λ one. one.wire.current ≡ None) (slice_get slot.sides (device - 1)) there (rest.cut (device - 1))) (λ j ne. rest.cut j);
  }

  known_by : (side : SideState) → slice_get slot.sides (device - 1) ≡ Some side → (slot.course.verdict ≡ verdict_in change entries) ⊎ IsAtRest change members entries slot
      → (slot.course.verdict ≡ verdict_in change entries) ⊎ IsAtRest change members entries (record { course = slot.course; sides = slice_set slot.sides (device - 1) (with_wire side (happens side.wire)) })
  known_by side there (inl of_entries) = inl of_entries
  known_by side there (inr rest) = inr (rest_by side there rest)

  wires_kept_by : (found : Option SideState) → slice_get slot.sides (device - 1) ≡ found
      → AllLinks P (wires_on happens slot device found).sides → IsKept change members entries owners devices (wires_on happens slot device found)
  wires_kept_by None there links = k
  wires_kept_by (Some side) there links = record {
    numbered = k.numbered;
    in_step = wires_stay change members entries slot happens device k.in_step (Some side) there (as_before (Some side));
    known = known_by side there k.known;
    holds = others_stay (λ j o. HoldsAt change (verdict_in change entries) (slice_get slot.course.seats j) o (slice_get devices j)) slot.sides (device - 1) side (with_wire side (happens side.wire)) there
        (step_at side (slice_get slot.course.seats (device - 1)) (slice_get devices (device - 1))
        (subst (λ o. HoldsAt change (verdict_in change entries) (slice_get slot.course.seats (device - 1)) o (slice_get devices (device - 1))) there (k.holds (device - 1)))) (λ j ne. k.holds j);
    linked = links;
    tells = k.tells;
  }

  pub wires_kept : IsKept change members entries owners devices (wires_on happens slot device (slice_get slot.sides (device - 1)))
  wires_kept = wires_kept_by (slice_get slot.sides (device - 1)) refl linked

module _ {Config Node : Type 0} (change members : ℕ) (entries : List Entry) (owners : ℕ → Owners) (devices : List (RecordedState Config Node)) (slot : SlotState) (k : IsKept change members entries owners devices slot) (device : ℕ) where
  pub lost_kept : (link : ℕ) → IsKept change members entries owners devices (wires_on (lost_wire link) slot device (slice_get slot.sides (device - 1)))
  lost_kept link =
      wires_kept change members entries owners devices slot k (lost_wire link) device (λ links. lost_as_before links link) (λ links. changed_current closed_link links link (link_at links link))
      (λ seat links r pair. closed_pair change (verdict_in change entries) seat links r link pair)
      (closed_links (λ d. IsLinked change entries (owners d) (slice_get devices d)) slot k.linked device link (λ d place one p. closed_linked change entries (owners d) (slice_get devices d) place one p))

  pub restarted_kept : IsKept change members entries owners devices (wires_on restarted slot device (slice_get slot.sides (device - 1)))
  restarted_kept =
      wires_kept change members entries owners devices slot k restarted device restarted_as_before (λ links. refl)
      (λ seat links r pair. restarted_pair change (verdict_in change entries) seat links r pair)
      (restarted_links (λ d. IsLinked change entries (owners d) (slice_get devices d)) slot k.linked device (λ d place one p. closed_linked change entries (owners d) (slice_get devices d) place one p))

-- ---- what nobody asks for

not_entered : (event : DeviceEvent) (user : List ℕ) → is_silent event ≡ true → event ≡ Entered user → ⊥
not_entered event user e is = absurd (let g : false ≡ true = sym (ap is_silent is) ∙ e in cc)

module _ {Config TheEdit Node : Type 0} (m : Meaning Config TheEdit Node) (laws : Laws m) (setting : Setting TheEdit) (edits : All m.edit_belongs setting.tables.edits) (w : CoreState Config Node) (s : IsSupported m setting w) where
  abbrev At : ℕ → RecordedState Config Node → Type 0
  At d now = IsSupported m setting (record w { devices = slice_set w.devices d now })

  pub silent_moves : (d : ℕ) (r : RecordedState Config Node) (event : DeviceEvent) (h : Happened Config Node) → Happens m setting.tables r.device event h → slice_get w.devices d ≡ Some r → is_silent event ≡ true
      → At d (recorded_with r event h)
  silent_moves d r event h happens here silent =
      others_supported m laws setting edits w s d r event h happens here (silent_others (s.owners d) r event silent)
      (record {
        same = λ session within. refl;
        fresh = λ session above. later session (numbers_rise m setting.tables r.device event h happens) above;
        new = λ user is. absurd (not_entered event user silent is);
      })
    where
      later : (session : ℕ) → r.device.sessions.last ≤ h.after.sessions.last → h.after.sessions.last < session → s.owners d session ≡ None
      later session more above = (some_is r (IsDevice m (s.owners d)) (slice_get w.devices d) here (s.devices d)).fresh session (omega (arith, more, above))

-- ---- the manager's links then

module _ {Config TheEdit Node : Type 0} (m : Meaning Config TheEdit Node) (setting : Setting TheEdit) (w : CoreState Config Node) (s : IsSupported m setting w) where
  pub closed_moves : (change device link : ℕ) → 1 ≤ change → (slot : SlotState) → slice_get w.slots (change - 1) ≡ Some slot
      → IsSupported m setting (with_manager w (with_slot (manager_in w) change (wires_on (lost_wire link) slot device (slice_get slot.sides (device - 1)))))
  closed_moves change device link numbered slot there =
      planned_by m setting w s change numbered slot
      (IsSupported m setting (with_manager w (with_slot (manager_in w) change (wires_on (lost_wire link) slot device (slice_get slot.sides (device - 1)))))) there
      (λ plan planned.
      slot_moves m setting w s change numbered plan slot (wires_on (lost_wire link) slot device (slice_get slot.sides (device - 1))) planned there
      (lost_kept change (devices_in plan.edits) w.entries s.owners w.devices slot (kept_here m setting w s change numbered plan slot planned there) device link)) (slice_get setting.plans (change - 1)) refl

  restarted_at : (place device : ℕ) (plan : Option ChangePlan) (slot : Option SlotState) → KeptAt (suc place) w.entries s.owners w.devices plan slot
      → KeptAt (suc place) w.entries s.owners w.devices plan (option_map (restarted_slot device) slot)
  restarted_at place device None None k = k
  restarted_at place device None (Some slot) k = k
  restarted_at place device (Some plan) None k = k
  restarted_at place device (Some plan) (Some slot) k = restarted_kept (suc place) (devices_in plan.edits) w.entries s.owners w.devices slot k device

  pub restarted_all : (device : ℕ) → IsSupported m setting (with_manager w (restarted_on (manager_in w) device))
  restarted_all device = record {
    owners = s.owners;
    entries = s.entries;
    devices = s.devices;
    slots = λ place.
        subst (λ o. KeptAt (suc place) w.entries s.owners w.devices (slice_get setting.plans place) o) (sym (slice_get-map (restarted_slot device) w.slots place))
        (restarted_at place device (slice_get setting.plans place) (slice_get w.slots place) (s.slots place));
    operators = s.operators;
  }
