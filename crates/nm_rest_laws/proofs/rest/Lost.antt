-- The device's side of a link closes.
use Rattle.std.proofs.Common.{◌≡◌, ◌∙◌, ◌==◌, ℕ, ◌-◌, Bool, true, false, cond, [], Option, Some, None, option_and_then, slice_get, slice_set, refl, ap}
use Rattle.nm_wire.specs.Link.{LinkState, closed_link, session_of}
use Rattle.nm_wire.specs.Wire.{WireState, link_at, is_open_at, is_open_link, changed, lost}
use Rattle.nm_manager.specs.Slot.{SideState, SlotState, wire_of_side, side_at, lost_wire, wires_on, with_wire}
use Rattle.nm_manager.specs.Manager.{ManagerState, wire_in, wire_of, slot_at, lost_on, wires_in}
use Rattle.nm_safety.proofs.Wires.{set_there}
use Rattle.nm_safety.proofs.Places.{set_length}
use Rattle.nm_rest_laws.proofs.rest.Closer.{set_relates, Duller, dull_same}

-- a link is as it was, but that its side may have closed
abbrev SameLink : Option LinkState → Option LinkState → Type 0
SameLink old new = (option_and_then session_of new ≡ option_and_then session_of old) × (is_open_link new ≡ true → is_open_link old ≡ true)

link_same : (o : Option LinkState) → SameLink o o
link_same o = (refl, λ is. is)

unless : (b : Bool) (old new : Option LinkState) → SameLink old new → SameLink (cond b None old) (cond b None new)
unless true old new same = link_same None
unless false old new same = same

there : (b : Bool) (found : Option LinkState) (link : LinkState) → cond b None found ≡ Some link → found ≡ Some link
there true found link e = absurd (let f : None ≡ Some link = e in cc)
there false found link e = e

now_closed : (link : LinkState) → SameLink (Some link) (Some (closed_link link))
now_closed link = (refl, λ is. absurd (let e : false ≡ true = is in cc))

closed_dull : (wire : WireState) (number : ℕ) (found : Option LinkState) → link_at wire number ≡ found → Duller wire (changed closed_link wire number found)
closed_dull wire number None e = dull_same wire
closed_dull wire number (Some link) e =
    let here : slice_get wire.links (number - 1) ≡ Some link = there (number == 0) (slice_get wire.links (number - 1)) link e in
    let each = set_relates SameLink link_same wire.links (number - 1) link (closed_link link) here (now_closed link) in
    record {
      count = set_length wire.links (number - 1) (closed_link link);
      current = refl;
      session = λ other. (unless (other == 0) (slice_get wire.links (other - 1)) (slice_get (slice_set wire.links (number - 1) (closed_link link)) (other - 1)) (each (other - 1))).0;
      opened = λ other. (unless (other == 0) (slice_get wire.links (other - 1)) (slice_get (slice_set wire.links (number - 1) (closed_link link)) (other - 1)) (each (other - 1))).1;
    }

pub lost_dull : (wire : WireState) (number : ℕ) → Duller wire (lost wire number)
lost_dull wire number = closed_dull wire number (link_at wire number) refl

-- the side of the link itself is closed then
not_open : (b : Bool) (found : Option LinkState) → is_open_link found ≡ false → is_open_link (cond b None found) ≡ false
not_open true found e = refl
not_open false found e = e

closed_then : (wire : WireState) (number : ℕ) (found : Option LinkState) → link_at wire number ≡ found → is_open_at (changed closed_link wire number found) number ≡ false
closed_then wire number None e = ap is_open_link e
closed_then wire number (Some link) e =
    let here : slice_get wire.links (number - 1) ≡ Some link = there (number == 0) (slice_get wire.links (number - 1)) link e in
    not_open (number == 0) (slice_get (slice_set wire.links (number - 1) (closed_link link)) (number - 1)) (ap is_open_link (set_there wire.links (number - 1) link (closed_link link) here))

pub lost_closed : (wire : WireState) (number : ℕ) → is_open_at (lost wire number) number ≡ false
lost_closed wire number = closed_then wire number (link_at wire number) refl

-- ---- among all links

module _ (state : ManagerState) (change device link : ℕ) where
  abbrev Sides : Option SideState → Option SideState → Type 0
  Sides old new = Duller (wire_of_side old) (wire_of_side new)

  abbrev Slots : Option SlotState → Option SlotState → Type 0
  Slots old new = (d : ℕ) → Duller (wire_of d old) (wire_of d new)

  slot_dull : (slot : SlotState) (side : Option SideState) → side_at slot device ≡ side → (d : ℕ) → Duller (wire_of_side (side_at slot d)) (wire_of_side (side_at (wires_on (lost_wire link) slot device side) d))
  slot_dull slot None e d = dull_same (wire_of_side (side_at slot d))
  slot_dull slot (Some side) e d =
      set_relates Sides (λ o. dull_same (wire_of_side o)) slot.sides (device - 1) side (with_wire side (lost_wire link side.wire)) e (lost_dull side.wire link) (d - 1)

  dull_by : (slot : Option SlotState) → slot_at state change ≡ slot → (c d : ℕ) → Duller (wire_in state c d) (wire_in (wires_in state change device (lost_wire link) slot) c d)
  dull_by None e c d = dull_same (wire_in state c d)
  dull_by (Some slot) e c d =
      set_relates Slots (λ o d. dull_same (wire_of d o)) state.slots (change - 1) slot (wires_on (lost_wire link) slot device (side_at slot device)) e
      (slot_dull slot (side_at slot device) refl) (c - 1) d

  pub all_dull : (c d : ℕ) → Duller (wire_in state c d) (wire_in (lost_on state change device link) c d)
  all_dull c d = dull_by (slot_at state change) refl c d

  -- the link itself is closed then
  side_closed : (slot : SlotState) (side : Option SideState) → side_at slot device ≡ side → is_open_at (wire_of_side (side_at (wires_on (lost_wire link) slot device side) device)) link ≡ false
  side_closed slot None e = ap (λ (o : Option SideState). is_open_at (wire_of_side o) link) e ∙ not_open (link == 0) (slice_get [] (link - 1)) refl
  side_closed slot (Some side) e =
      ap (λ (o : Option SideState). is_open_at (wire_of_side o) link) (set_there slot.sides (device - 1) side (with_wire side (lost_wire link side.wire)) e) ∙ lost_closed side.wire link

  closed_by : (slot : Option SlotState) → slot_at state change ≡ slot → is_open_at (wire_in (wires_in state change device (lost_wire link) slot) change device) link ≡ false
  closed_by None e = ap (λ (o : Option SlotState). is_open_at (wire_of device o) link) e ∙ not_open (link == 0) (slice_get [] (link - 1)) refl
  closed_by (Some slot) e =
      ap (λ (o : Option SlotState). is_open_at (wire_of device o) link) (set_there state.slots (change - 1) slot (wires_on (lost_wire link) slot device (side_at slot device)) e)
      ∙ side_closed slot (side_at slot device) refl

  pub here_closed : is_open_at (wire_in (lost_on state change device link) change device) link ≡ false
  here_closed = closed_by (slot_at state change) refl
