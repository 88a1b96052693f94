-- Each abort has its cause, where one more reply is told on a link that stands in the device's history.
use Rattle.std.proofs.Common.{◌≡◌, ◌⊎◌, inl, inr, ℕ, suc, ◌-◌, List, [], ◌∷◌, ◌++◌, Contains, Option, Some}
use Rattle.std.proofs.Common.{IfSome, slice_get, slice_set, refl, sym, subst}
use Rattle.nm_proto.specs.declared.journal.Verdict.TheVariants.{Abort}
use Rattle.nm_proto.specs.declared.message.Request.{Request}
use Rattle.nm_proto.specs.declared.message.Reply.{Reply}
use Rattle.nm_proto.specs.declared.plan.Event.{Event}
use Rattle.nm_history.specs.declared.event.Noted.{Noted}
use Rattle.nm_history.specs.History.{RecordedState}
use Rattle.nm_recovery.specs.Recovery.{verdict_in}
use Rattle.nm_wire.specs.declared.link.Exchange.{Exchange}
use Rattle.nm_wire.specs.declared.link.Way.TheVariants as way
use Rattle.nm_wire.specs.Link.{LinkState, session_of}
use Rattle.nm_wire.specs.Wire.{WireState, told, link_at, session_at}
use Rattle.nm_manager.specs.Slot.{SideState, SlotState, wire_of_side}
use Rattle.nm_manager.specs.Manager.{wire_of}
use Rattle.nm_world.specs.World.{WorldState, Came, passed}
use Rattle.nm_safety.proofs.Wires.{at_set}
use Rattle.nm_safety.proofs.Managed.{others_stay}
use Rattle.nm_outcome_laws.specs.Causes.{exchanges_at, history_in, history_at, links_to, IsToldAlike, HasCause}
use Rattle.nm_outcome_laws.proofs.causes.Trail.{IsPlain, plain_alike}
use Rattle.nm_outcome_laws.proofs.causes.Wires.{IsMore, exchange_now, told_at_more}
use Rattle.nm_outcome_laws.proofs.causes.Refusals.{IsAnswered, answered_stays}
use Rattle.nm_outcome_laws.proofs.causes.Stays.{trouble_of, IsCaused, GoesOn, Grows, cause_stays, trouble_stays}

-- ---- what comes to be told

-- what is new on the links to a device was answered there
pub record WireTells (history : List Noted) (before after : WireState) : Type 0 where
  pub comes : (link : ℕ) (x : Exchange) → Contains (exchanges_at after link) x
      → Contains (exchanges_at before link) x ⊎ IsAnswered (session_at before link) x history
  pub stays : (link : ℕ) (x : Exchange) → Contains (exchanges_at before link) x → Contains (exchanges_at after link) x
  pub goes : (link one : ℕ) → session_at before link ≡ Some one → session_at after link ≡ Some one

tells_itself : (history : List Noted) (wire : WireState) → WireTells history wire wire
tells_itself history wire = record { comes = λ link x c. inl c; stays = λ link x c. c; goes = λ link one e. e }

module _ (history : List Noted) (wire : WireState) (number : ℕ) (link : LinkState) (here : link_at wire number ≡ Some link) (request : Request)
    (reply : Reply) (way_is : link.way ≡ way.Asked request)
    (answered : IsAnswered (session_of link) (exchange_now request reply (session_of link)) history) where
  more_at : (other : ℕ) → IsMore request reply (session_of link) (link_at wire other) (link_at (told wire number reply) other)
  more_at other = told_at_more request reply (session_of link) wire number link here way_is refl other

  comes_by : (other : ℕ) (x : Exchange)
      → Contains (exchanges_at wire other) x ⊎ ((x ≡ exchange_now request reply (session_of link)) × (session_at wire other ≡ session_of link))
      → Contains (exchanges_at wire other) x ⊎ IsAnswered (session_at wire other) x history
  comes_by other x (inl c) = inl c
  comes_by other x (inr new) =
      inr (subst (λ o. IsAnswered o x history) (sym new.1) (subst (λ one. IsAnswered (session_of link) one history) (sym new.0) answered))

  pub wire_told : WireTells history wire (told wire number reply)
  wire_told = record {
    comes = λ other x c. comes_by other x ((more_at other).comes x c);
    stays = λ other x c. (more_at other).stays x c;
    goes = λ other one e. (more_at other).goes one e;
  }

module _ {Config Node : Type 0} (devices : List (RecordedState Config Node)) where
  abbrev SlotTells : Option SlotState → Option SlotState → Type 0
  SlotTells before after = (device : ℕ) → WireTells (history_at devices device) (wire_of device before) (wire_of device after)

  pub slot_told : (slot : SlotState) (d : ℕ) (side new : SideState) → slice_get slot.sides d ≡ Some side
      → WireTells (history_in (slice_get devices d)) side.wire new.wire
      → SlotTells (Some slot) (Some (record { course = slot.course; sides = slice_set slot.sides d new }))
  slot_told slot d side new there now device =
      others_stay (λ j found. WireTells (history_in (slice_get devices j)) (wire_of_side (slice_get slot.sides j)) (wire_of_side found))
      slot.sides d side new there
      (subst (λ found. WireTells (history_in (slice_get devices d)) (wire_of_side found) new.wire) (sym there) now)
      (λ j ne. tells_itself (history_in (slice_get devices j)) (wire_of_side (slice_get slot.sides j))) (device - 1)

  pub slots_told : (slots : List SlotState) (p : ℕ) (slot new : SlotState) → slice_get slots p ≡ Some slot → SlotTells (Some slot) (Some new)
      → (place : ℕ) → SlotTells (slice_get slots place) (slice_get (slice_set slots p new) place)
  slots_told slots p slot new there now place =
      at_set SlotTells (λ found device. tells_itself (history_at devices device) (wire_of device found)) slots p place slot new there now

-- ---- the world then

module _ {Config Node : Type 0} (w : WorldState Config Node) (k : IsCaused w) (event : Event) (c : Came Config Node)
    (plain : IsPlain (record { event = event; happened = c.happened })) (entries : c.after.entries ≡ w.entries)
    (grows : (place : ℕ) → Grows (slice_get w.devices place) (slice_get c.after.devices place))
    (tells : (place : ℕ) → SlotTells c.after.devices (slice_get w.slots place) (slice_get c.after.slots place))
    (troubles : (place : ℕ) → trouble_of (slice_get c.after.slots place) ≡ trouble_of (slice_get w.slots place)) where
  abbrev after : WorldState Config Node
  after = passed w event c

  abbrev now_at : (change device : ℕ) → WireTells (history_at after.devices device) (links_to w change device) (links_to after change device)
  now_at change device = tells (change - 1) device

  goes : GoesOn w after
  goes = record {
    grows = λ device. grows (device - 1);
    told = λ change device link x there. (now_at change device).stays link x there;
    goes = λ change device link one e. (now_at change device).goes link one e;
    last = record { event = event; happened = c.happened };
    trail = refl;
  }

  answered_by : (change device link : ℕ) (x : Exchange)
      → Contains (exchanges_at (links_to w change device) link) x ⊎ IsAnswered (session_at (links_to w change device) link) x (history_at after.devices device)
      → IsAnswered (session_at (links_to after change device) link) x (history_at after.devices device)
  answered_by change device link x (inl there) =
      answered_stays (session_at (links_to w change device) link) (session_at (links_to after change device) link) x (history_at w.devices device)
      (history_at after.devices device)
      (goes.goes change device link) (goes.grows device) (k.answered change device link x there)
  answered_by change device link x (inr new) =
      answered_stays (session_at (links_to w change device) link) (session_at (links_to after change device) link) x (history_at after.devices device)
      (history_at after.devices device)
      (goes.goes change device link) (λ entry h. h) new

  pub told_caused : IsCaused after
  told_caused = record {
    alike = λ change.
        subst (λ es. IsToldAlike change (w.trail ++ record { event = event; happened = c.happened } ∷ []) es) (sym entries)
        (plain_alike change w.trail w.entries (record { event = event; happened = c.happened }) plain (k.alike change));
    answered = λ change device link x there. answered_by change device link x ((now_at change device).comes link x there);
    troubles = λ place.
        subst (λ found. IfSome found (HasCause after (suc place))) (sym (troubles place))
        (trouble_stays w after goes (suc place) (trouble_of (slice_get w.slots place)) (k.troubles place));
    aborted = λ change why e. cause_stays w after goes change why
        (k.aborted change why (subst (λ es. verdict_in change es ≡ Some (Abort why)) entries e));
  }
