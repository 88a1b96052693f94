-- What is kept of each link of a change set where something happens at a device.
use Rattle.std.proofs.Common.{ℕ, ◌≡◌, ◌-◌, ◌≤◌, List, Option, Some, IfSome, slice_get, slice_set, sym, subst}
use Rattle.nm_proto.specs.declared.journal.Entry.{Entry}
use Rattle.nm_proto.specs.Content.{Meaning}
use Rattle.nm_proto.specs.Plan.{devices_in}
use Rattle.nm_history.specs.declared.event.DeviceEvent.{DeviceEvent}
use Rattle.nm_history.specs.History.{Happened, RecordedState, recorded_with}
use Rattle.nm_device_laws.specs.Moment.{Happens}
use Rattle.nm_device_laws.specs.Keeps.{KeepsFor}
use Rattle.nm_device_laws.proofs.Keeping.{session_kept}
use Rattle.nm_wire.specs.Link.{LinkState, session_of, told_on}
use Rattle.nm_wire.specs.Wire as wire
use Rattle.nm_wire.specs.Wire.{told}
use Rattle.nm_manager.specs.Slot.{SideState, SlotState, with_wire}
use Rattle.nm_safety.proofs.Wires.{set_there}
use Rattle.nm_world.specs.World.{Setting, WorldState}
use Rattle.nm_safety.specs.Support.{AllLinks, IsDevice, IsKept, IsLinked, IsOwned, Owners}
use Rattle.nm_safety.specs.Keeping.{Delivery, IsDone, IsOthers, Site, device_then, devices_then, slot_then}
use Rattle.nm_safety.proofs.Lists.{set_other, some_is, to_some}
use Rattle.nm_safety.proofs.Managed.{others_stay}
use Rattle.nm_safety.proofs.SlotLinks.{links_at}

-- whose the sessions of a link are
pub owned_at : {Config Node : Type 0} (change members : ℕ) (entries : List Entry) (owners : ℕ → Owners) (devices : List (RecordedState Config Node)) (slot : SlotState)
    → IsKept change members entries owners devices slot → (d : ℕ) (r : RecordedState Config Node) → slice_get devices d ≡ Some r
    → (side : SideState) → slice_get slot.sides d ≡ Some side → (place : ℕ) (link : LinkState) → slice_get side.wire.links place ≡ Some link
    → IsOwned change (owners d) r.device.sessions.last place link
owned_at change members entries owners devices slot k d r here side there place link found =
    some_is r (λ one. IsOwned change (owners d) one.device.sessions.last place link) (slice_get devices d) here
    (some_is link (IsLinked change entries (owners d) (slice_get devices d) place) (slice_get side.wire.links place) found
    (links_at (λ j. IsLinked change entries (owners j) (slice_get devices j)) slot k.linked d side there place)).owned

-- of a link, by the places of its device and its own
module _ {Config TheEdit Node : Type 0} (m : Meaning Config TheEdit Node) (setting : Setting TheEdit) (B : WorldState Config Node → Type 0)
    (P : ℕ → Option (RecordedState Config Node) → ℕ → LinkState → Type 0) where
  abbrev pub AllOf : List (RecordedState Config Node) → List SideState → Type 0
  AllOf devices sides = AllLinks (λ d. P d (slice_get devices d)) sides

  -- it is kept where the sessions of the link keep what they have
  abbrev pub Stays : ℕ → RecordedState Config Node → DeviceEvent → Happened Config Node → Type 0
  Stays d r event h =
      (place : ℕ) (link : LinkState)
      → ((session : ℕ) → session_of link ≡ Some session → KeepsFor session r.device h.after × (session ≤ r.device.sessions.last))
      → P d (Some r) place link → P d (Some (recorded_with r event h)) place link

  -- the same of a link that stands there
  abbrev pub StaysThere : List SideState → ℕ → RecordedState Config Node → DeviceEvent → Happened Config Node → Type 0
  StaysThere sides d r event h =
      (side : SideState) → slice_get sides d ≡ Some side → (place : ℕ) (link : LinkState) → slice_get side.wire.links place ≡ Some link
      → ((session : ℕ) → session_of link ≡ Some session → KeepsFor session r.device h.after × (session ≤ r.device.sessions.last))
      → P d (Some r) place link → P d (Some (recorded_with r event h)) place link

  -- something happens that the change set doesn't ask for
  module _ (x : Site m setting B) (d : ℕ) (r : RecordedState Config Node) (here : slice_get x.w.devices d ≡ Some r) (known : IsDevice m (x.owners d) r)
      (event : DeviceEvent) (h : Happened Config Node) (happens : Happens m setting.tables r.device event h) (others : IsOthers x.change (x.owners d) r event)
      (stays : StaysThere x.slot.sides d r event h) (all : AllOf x.w.devices x.slot.sides) where
    keeps_at : (side : SideState) → slice_get x.slot.sides d ≡ Some side → (place : ℕ) (link : LinkState) → slice_get side.wire.links place ≡ Some link
        → (session : ℕ) → session_of link ≡ Some session → KeepsFor session r.device h.after × (session ≤ r.device.sessions.last)
    keeps_at side there place link found session is =
        let own : IsOwned x.change (x.owners d) r.device.sessions.last place link =
        owned_at x.change (devices_in x.plan.edits) x.w.entries x.owners x.w.devices x.slot x.kept d r here side there place link found in
        (session_kept m setting.tables r.device known.numbered session event h happens (others.asker session place (own.session session is)), own.opened session is)

    links_there : (side : SideState) → slice_get x.slot.sides d ≡ Some side → (place : ℕ) → IfSome (slice_get side.wire.links place) (P d (Some (recorded_with r event h)) place)
    links_there side there place =
        to_some (P d (Some (recorded_with r event h)) place) (slice_get side.wire.links place)
        (λ link found.
        stays side there place link found (keeps_at side there place link found)
        (subst (λ o. P d o place link) here
        (some_is link (P d (slice_get x.w.devices d) place) (slice_get side.wire.links place) found
        (links_at (λ j. P j (slice_get x.w.devices j)) x.slot all d side there place))))

    pub links_aside_there : AllOf (slice_set x.w.devices d (recorded_with r event h)) x.slot.sides
    links_aside_there =
        others_stay (λ j o. IfSome (slice_get x.slot.sides j) (λ side. (place : ℕ) → IfSome (slice_get side.wire.links place) (P j o place)))
        x.w.devices d r (recorded_with r event h) here
        (to_some (λ side. (place : ℕ) → IfSome (slice_get side.wire.links place) (P d (Some (recorded_with r event h)) place)) (slice_get x.slot.sides d) links_there)
        (λ j ne. all j)

  module _ (x : Site m setting B) (d : ℕ) (r : RecordedState Config Node) (here : slice_get x.w.devices d ≡ Some r) (known : IsDevice m (x.owners d) r)
      (event : DeviceEvent) (h : Happened Config Node) (happens : Happens m setting.tables r.device event h) (others : IsOthers x.change (x.owners d) r event)
      (stays : Stays d r event h) (all : AllOf x.w.devices x.slot.sides) where
    pub links_aside : AllOf (slice_set x.w.devices d (recorded_with r event h)) x.slot.sides
    links_aside = links_aside_there x d r here known event h happens others (λ side there place link found. stays place link) all

  -- one of its links is told
  module _ (x : Delivery m setting B) {event : DeviceEvent} (done : IsDone m setting B x event) (stays : StaysThere x.slot.sides (x.device - 1) x.r event done.h)
      (new : P (x.device - 1) (Some (device_then m setting B x done)) (x.link - 1) (told_on done.reply x.one)) (all : AllOf x.w.devices x.slot.sides) where
    abbrev d : ℕ
    d = x.device - 1

    abbrev after : RecordedState Config Node
    after = device_then m setting B x done

    link_here : (place : ℕ) (link : LinkState) → slice_get x.side.wire.links place ≡ Some link → P d (Some x.r) place link
    link_here place link found =
        subst (λ o. P d o place link) x.here
        (some_is link (P d (slice_get x.w.devices d) place) (slice_get x.side.wire.links place) found
        (links_at (λ j. P j (slice_get x.w.devices j)) x.slot all d x.side x.at_side place))

    other_link : (place : ℕ) → (place ≡ x.link - 1 → ⊥) → (link : LinkState) → slice_get x.side.wire.links place ≡ Some link → P d (Some after) place link
    other_link place ne link found =
        stays x.side x.at_side place link found (λ session is. (done.keeps place link found ne session is, (x.owned place link found).opened session is)) (link_here place link found)

    told_there : (place : ℕ) → IfSome (slice_get (told x.side.wire x.link done.reply).links place) (P d (slice_get (devices_then m setting B x done) d) place)
    told_there place =
        subst (λ o. IfSome (slice_get (told x.side.wire x.link done.reply).links place) (P d o place)) (sym (set_there x.w.devices d x.r after x.here))
        (subst (λ found. IfSome (slice_get (wire.changed (told_on done.reply) x.side.wire x.link found).links place) (P d (Some after) place)) (sym x.at_link)
        (others_stay (λ j o. IfSome o (P d (Some after) j)) x.side.wire.links (x.link - 1) x.one (told_on done.reply x.one) x.at_place new
        (λ j ne. to_some (P d (Some after) j) (slice_get x.side.wire.links j) (other_link j ne)) place))

    pub links_told_there : AllOf (devices_then m setting B x done) (slot_then m setting B x done).sides
    links_told_there =
        others_stay (λ j o. IfSome o (λ side. (place : ℕ) → IfSome (slice_get side.wire.links place) (P j (slice_get (devices_then m setting B x done) j) place)))
        x.slot.sides d x.side (with_wire x.side (told x.side.wire x.link done.reply)) x.at_side told_there
        (λ j ne.
        subst (λ o. IfSome (slice_get x.slot.sides j) (λ side. (place : ℕ) → IfSome (slice_get side.wire.links place) (P j o place)))
        (sym (set_other x.w.devices d j after ne)) (all j))

  module _ (x : Delivery m setting B) {event : DeviceEvent} (done : IsDone m setting B x event) (stays : Stays (x.device - 1) x.r event done.h)
      (new : P (x.device - 1) (Some (device_then m setting B x done)) (x.link - 1) (told_on done.reply x.one)) (all : AllOf x.w.devices x.slot.sides) where
    pub links_told : AllOf (devices_then m setting B x done) (slot_then m setting B x done).sides
    links_told = links_told_there x done (λ side there place link found. stays place link) new all
