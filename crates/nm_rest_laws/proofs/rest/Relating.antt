-- What links carry on at each step of the manager: it closes no side at a device, and a session stays a link's.
use Rattle.std.proofs.Common.{◌≡◌, ℕ, zero, suc, ◌-◌, Bool, true, false, List, [], ◌∷◌, map, Option, Some, None, is_some, slice_get, slice_set, refl}
use Rattle.nm_proto.specs.declared.ask.Ask.{Ask}
use Rattle.nm_proto.specs.declared.ask.Ask.TheVariants as ask
use Rattle.nm_proto.specs.declared.message.Request.{Request}
use Rattle.nm_proto.specs.declared.journal.Entry.{Entry}
use Rattle.nm_proto.specs.declared.plan.ChangePlan.{ChangePlan}
use Rattle.nm_recovery.specs.Recovery.{verdict_in}
use Rattle.nm_decider.specs.Course as course
use Rattle.nm_decider.specs.Course.{CourseState}
use Rattle.nm_wire.specs.declared.link.Exchange.{Exchange}
use Rattle.nm_wire.specs.Wire.{no_links, handled_at, due}
use Rattle.nm_manager.specs.Requests.{request_for}
use Rattle.nm_manager.specs.Slot.{SideState, SlotState, PairStep, SlotStep, wire_of_side, with_pair, with_wire, asked_in_fact, opens, may_go, gone, sends_if, sends_request, sends, renews_if, renews, awaits_resync, receives_due, receives, breaks_current, breaks, cut_off, to_commit, on_side, sends_pair, renews_pair, receives_pair, breaks_pair}
use Rattle.nm_manager.specs.Manager.{start_anew}
use Rattle.nm_manager.proofs.Reach.{side_reached}
use Rattle.nm_safety.proofs.Wires.{due_is}
use Rattle.nm_rest_laws.proofs.rest.Closer.{set_relates}
use Rattle.nm_rest_laws.proofs.rest.Holding.{Carries, cut_carries, gone_carries, heard_carries, same_carries, wire_at}

abbrev pub Sides : List SideState → List SideState → Type 0
Sides old new = (d : ℕ) → Carries (wire_of_side (slice_get old d)) (wire_of_side (slice_get new d))

sides_same : (sides : List SideState) → Sides sides sides
sides_same sides d = same_carries (wire_of_side (slice_get sides d))

set_side : (sides : List SideState) (place : ℕ) (side new : SideState) → slice_get sides place ≡ Some side → Carries side.wire new.wire → Sides sides (slice_set sides place new)
set_side sides place side new there r = set_relates (λ o p. Carries (wire_of_side o) (wire_of_side p)) (λ o. same_carries (wire_of_side o)) sides place side new there r

pub map_sides : (change : SideState → SideState) → ((side : SideState) → Carries side.wire (change side).wire) → (sides : List SideState) → Sides sides (map change sides)
map_sides change r [] d = same_carries no_links
map_sides change r (side ∷ sides) zero = r side
map_sides change r (side ∷ sides) (suc d) = map_sides change r sides d

module _ (slot : SlotState) where
  abbrev Slot : SlotState → Type 0
  Slot new = Sides slot.sides new.sides

  -- a step for a device, where it has a side
  on_device : (step : CourseState → SideState → PairStep) (device : ℕ)
      → ((side : SideState) → slice_get slot.sides (device - 1) ≡ Some side → Slot (with_pair slot device (step slot.course side)).slot)
      → Slot (on_side step slot device (slice_get slot.sides (device - 1))).slot
  on_device step device = side_reached step slot device (λ (done : SlotStep). Slot done.slot) (sides_same slot.sides)

  out_if : (device : ℕ) (side : SideState) → slice_get slot.sides (device - 1) ≡ Some side → (before now : CourseState) (new : Bool) (request : Request) (b : Bool) → may_go new side.wire ≡ b
      → Slot (with_pair slot device (sends_if b new device before now side request)).slot
  out_if device side there before now new request false e = set_side slot.sides (device - 1) side side there (same_carries side.wire)
  out_if device side there before now new request true e = set_side slot.sides (device - 1) side (with_wire side (gone new side.wire request)) there (gone_carries new side.wire request e)

  out_by : (device : ℕ) (side : SideState) → slice_get slot.sides (device - 1) ≡ Some side → (before now : CourseState) (new : Bool) (found : Option Request) → Slot (with_pair slot device (sends_request new device before now side found)).slot
  out_by device side there before now new None = set_side slot.sides (device - 1) side side there (same_carries side.wire)
  out_by device side there before now new (Some request) = out_if device side there before now new request (may_go new side.wire) refl

  pub sent_on : (plan : ChangePlan) (entries : List Entry) (device : ℕ) (what : Ask) → Slot (sends plan entries slot device what).slot
  sent_on plan entries device what =
      on_device (sends_pair plan entries device what) device
      (λ side there. out_by device side there slot.course (course.with_sent slot.course device) (opens (asked_in_fact side.resync what)) (request_for plan entries slot.course.change device (asked_in_fact side.resync what)))

  renewed_if : (plan : ChangePlan) (entries : List Entry) (device : ℕ) (side : SideState) → slice_get slot.sides (device - 1) ≡ Some side → (b : Bool) → Slot (with_pair slot device (renews_if b plan entries slot.course side device)).slot
  renewed_if plan entries device side there false = set_side slot.sides (device - 1) side side there (same_carries side.wire)
  renewed_if plan entries device side there true = out_by device side there slot.course (course.with_renewed slot.course device) false (request_for plan entries slot.course.change device ask.Renew)

  pub renewed_on : (plan : ChangePlan) (entries : List Entry) (device : ℕ) → Slot (renews plan entries slot device).slot
  renewed_on plan entries device =
      on_device (renews_pair plan entries device) device (λ side there. renewed_if plan entries device side there (course.may_renew slot.course device))

  due_by : (device link number : ℕ) (side : SideState) → slice_get slot.sides (device - 1) ≡ Some side → (resyncs : Bool) (told : Option Exchange) → due side.wire link number ≡ told
      → Slot (with_pair slot device (receives_due resyncs slot.course side device (handled_at side.wire link told) told)).slot
  due_by device link number side there resyncs None e = set_side slot.sides (device - 1) side side there (same_carries side.wire)
  due_by device link number side there resyncs (Some exchange) e =
      set_side slot.sides (device - 1) side (record { wire = handled_at side.wire link (Some exchange); resync = _ }) there (heard_carries side.wire link exchange (due_is side.wire link number exchange e))

  pub received_on : (device link number : ℕ) → Slot (receives slot device link number).slot
  received_on device link number =
      on_device (receives_pair device link number) device
      (λ side there. due_by device link number side there (awaits_resync (slice_get slot.course.seats (device - 1))) (due side.wire link number) refl)

  breaks_by : (device : ℕ) (side : SideState) → slice_get slot.sides (device - 1) ≡ Some side → (current : Option ℕ) → Slot (with_pair slot device (breaks_current slot.course side device current)).slot
  breaks_by device side there None = set_side slot.sides (device - 1) side side there (same_carries side.wire)
  breaks_by device side there (Some number) = set_side slot.sides (device - 1) side (cut_off (to_commit slot.course.verdict) side) there (cut_carries side.wire)

  pub broken_on : (device : ℕ) → Slot (breaks slot device).slot
  broken_on device = on_device (breaks_pair device) device (λ side there. breaks_by device side there side.wire.current)

-- ---- all change sets

abbrev pub SlotsCarry : List SlotState → List SlotState → Type 0
SlotsCarry old new = (p d : ℕ) → Carries (wire_at (slice_get old p) d) (wire_at (slice_get new p) d)

pub slots_same : (slots : List SlotState) → SlotsCarry slots slots
slots_same slots p d = same_carries (wire_at (slice_get slots p) d)

-- one of them is another
pub set_slot : (slots : List SlotState) (place : ℕ) (slot new : SlotState) → slice_get slots place ≡ Some slot → Sides slot.sides new.sides
    → SlotsCarry slots (slice_set slots place new)
set_slot slots place slot new there r =
    set_relates (λ o n. (d : ℕ) → Carries (wire_at o d) (wire_at n d)) (λ o d. same_carries (wire_at o d)) slots place slot new there r

-- the manager starts anew. A list that is shorter than that of the slots can't be: there is a plan for each
pub anew_on : (entries : List Entry) (base : ℕ) (plans : List ChangePlan) (slots : List SlotState)
    → ((j : ℕ) → is_some (slice_get slots j) ≡ true → is_some (slice_get plans j) ≡ true) → SlotsCarry slots (start_anew entries base plans slots)
anew_on entries base [] slots planned p d = same_carries (wire_at (slice_get slots p) d)
anew_on entries base (plan ∷ plans) [] planned p d = same_carries no_links
anew_on entries base (plan ∷ plans) (slot ∷ slots) planned zero d =
    map_sides (cut_off (to_commit (verdict_in base entries))) (λ side. cut_carries side.wire) slot.sides d
anew_on entries base (plan ∷ plans) (slot ∷ slots) planned (suc p) d = anew_on entries (suc base) plans slots (λ j. planned (suc j)) p d
