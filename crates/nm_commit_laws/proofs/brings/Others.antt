-- What is kept of the links of a change set where something happens at a device that they don't ask for.
use Rattle.std.proofs.Common.{◌≡◌, ◌∙◌, ℕ, suc, ◌≤◌, true, List, Option, Some, None, is_some, slice_get, unwrap_or, refl, sym, ap, subst, arith}
use Rattle.nm_proto.specs.declared.journal.Entry.{Entry}
use Rattle.nm_proto.specs.declared.journal.Verdict.{Verdict}
use Rattle.nm_proto.specs.declared.message.Store.TheVariants.{Candidate}
use Rattle.nm_proto.specs.Content.{Meaning}
use Rattle.nm_sessions.specs.Sessions.{is_open}
use Rattle.nm_device.specs.Device.{DeviceState}
use Rattle.nm_history.specs.declared.event.DeviceEvent.{DeviceEvent}
use Rattle.nm_history.specs.History.{Happened, RecordedState, recorded_with}
use Rattle.nm_recovery.specs.Recovery.{verdict_in}
use Rattle.nm_device_laws.specs.Keeps.{KeepsFor, KeepsOpen}
use Rattle.nm_decider.specs.declared.seat.Seat.{Seat}
use Rattle.nm_wire.specs.Link.{LinkState, fresh_link, session_of}
use Rattle.nm_manager.specs.Slot.{SideState, SlotState}
use Rattle.nm_safety.specs.Pair.{HoldsRunning, PairHolds, first_link}
use Rattle.nm_safety.specs.Support.{IsKept, IsOwned, Owners}
use Rattle.nm_safety.proofs.EachLink as each_link
use Rattle.nm_safety.proofs.EachLink.{StaysThere}
use Rattle.nm_safety.proofs.PairSteps.{pair_at}
use Rattle.nm_world.specs.World.{Setting, WorldState}
use Rattle.nm_commit_laws.specs.Brings.{Brings}
use Rattle.nm_commit_laws.specs.Course.{steps_of}
use Rattle.nm_commit_laws.specs.BringsSupport.{IsEdited, IsOwnLink, IsPrepared, IsPreparedOn}
use Rattle.nm_commit_laws.proofs.brings.Slots.{holds_at}
use Rattle.nm_commit_laws.proofs.brings.Words.{steps_hold}

-- ---- what stands for a session

pub two_one : (n : ℕ) → 2 ≤ n → 1 ≤ n
two_one n h = omega (arith, h)

three_two : (n : ℕ) → 3 ≤ n → 2 ≤ n
three_two n h = omega (arith, h)

pub is_two : (n : ℕ) → n ≡ 2 → 2 ≤ n
is_two n e = omega (arith, e)

module _ {Config TheEdit Node : Type 0} (m : Meaning Config TheEdit Node) (setting : Setting TheEdit) (entries : List Entry)
    (change device : ℕ) where
  -- under its locks nobody else changes candidate or running
  prepared_kept : (steps session : ℕ) (s now : DeviceState Config Node) → KeepsOpen session s now → (1 ≤ steps → HoldsRunning session s)
      → IsPrepared m setting entries change device steps session s
      → IsPrepared m setting entries change device steps session now
  prepared_kept steps session s now keeps holds p = record {
    owner = λ two. keeps.owner Candidate (p.owner two);
    unmodified = λ e. keeps.candidate (p.owner (is_two steps e)) ∙ p.unmodified e;
    edited = λ three.
        let two : 2 ≤ steps = three_two steps three in
        let held : HoldsRunning session s = holds (two_one steps two) in
        let e : IsEdited m setting entries change device s = p.edited three in
        record {
          config = e.config;
          candidate = keeps.candidate (p.owner two) ∙ e.candidate;
          brings = subst (λ c. Brings m setting entries change device c e.config) (sym (keeps.running held.owner held.free)) e.brings;
        };
  }

-- link 1 is the first
pub first_found : (links : List LinkState) (place : ℕ) (link : LinkState) → slice_get links place ≡ Some link → place ≡ 0
    → slice_get links 0 ≡ Some link
first_found links place link found e = subst (λ p. slice_get links p ≡ Some link) e found

pub first_same : (side : SideState) (link : LinkState) → slice_get side.wire.links 0 ≡ Some link → first_link side.wire ≡ link
first_same side link found = ap (λ o. unwrap_or o fresh_link) found

-- ---- one change set

module _ {Config TheEdit Node : Type 0} (m : Meaning Config TheEdit Node) (setting : Setting TheEdit) (change members : ℕ)
    (entries : List Entry) (owners : ℕ → Owners) (devices : List (RecordedState Config Node)) (slot : SlotState)
    (k : IsKept change members entries owners devices slot) (d : ℕ) (r : RecordedState Config Node)
    (here : slice_get devices d ≡ Some r) where
  abbrev v : Option Verdict
  v = verdict_in change entries

  module _ (side : SideState) (there : slice_get slot.sides d ≡ Some side) where
    -- the pair of the device
    pub pair_here : (T : Type 0) → ((seat : Seat) → slice_get slot.course.seats d ≡ Some seat → PairHolds change v seat side.wire r → T) → T
    pair_here T step = by_seat (slice_get slot.course.seats d) refl
      where
        by_seat : (seat : Option Seat) → slice_get slot.course.seats d ≡ seat → T
        by_seat None seated = absurd (pair_at change members entries slot k.in_step d None (Some side) seated there)
        by_seat (Some seat) seated = step seat seated (holds_at change members entries owners devices slot k d seat side r seated there here)

    -- who has come a step has running to itself
    pub running_held : (link : LinkState) → first_link side.wire ≡ link → (session : ℕ) → session_of link ≡ Some session
        → is_open r.device.sessions session ≡ true → 1 ≤ steps_of link → HoldsRunning session r.device
    running_held link first session at opened one =
        pair_here (HoldsRunning session r.device)
        (λ seat seated pair.
        pair.first.held (steps_hold (first_link side.wire) (subst (λ l. 1 ≤ steps_of l) (sym first) one)) session
        (ap session_of first ∙ at) opened)

    pub owned_at : (place : ℕ) (link : LinkState) → slice_get side.wire.links place ≡ Some link
        → IsOwned change (owners d) r.device.sessions.last place link
    owned_at place link found = each_link.owned_at change members entries owners devices slot k d r here side there place link found

  -- what is there is kept for a link whose session keeps what it has
  module _ (event : DeviceEvent) (h : Happened Config Node) where
    abbrev after : RecordedState Config Node
    after = recorded_with r event h

    module _ (side : SideState) (there : slice_get slot.sides d ≡ Some side) (place : ℕ) (link : LinkState)
        (found : slice_get side.wire.links place ≡ Some link)
        (keeps : (session : ℕ) → session_of link ≡ Some session → KeepsFor session r.device h.after × (session ≤ r.device.sessions.last)) where
      prepared_there : place ≡ 0 → IsPreparedOn m setting entries change (suc d) link r → IsPreparedOn m setting entries change (suc d) link after
      prepared_there first p session at opened =
          let known : KeepsFor session r.device h.after × (session ≤ r.device.sessions.last) = keeps session at in
          let kept : KeepsOpen session r.device h.after = known.0.kept opened in
          let was : is_open r.device.sessions session ≡ true = sym (ap is_some (kept.user known.1)) ∙ opened in
          prepared_kept m setting entries change (suc d) (steps_of link) session r.device h.after kept
          (running_held side there link (first_same side link (first_found side.wire.links place link found first)) session at was)
          (p session at was)

      own_there : IsOwnLink m setting entries change (suc d) (Some r) place link → IsOwnLink m setting entries change (suc d) (Some after) place link
      own_there own = record { asked = own.asked; prepared = λ first. prepared_there first (own.prepared first) }

-- ---- all of them

module _ {Config TheEdit Node : Type 0} (m : Meaning Config TheEdit Node) (setting : Setting TheEdit) (entries : List Entry) (change : ℕ) where
  -- a link by its places and the device
  abbrev pub OwnAt : ℕ → Option (RecordedState Config Node) → ℕ → LinkState → Type 0
  OwnAt d r place link = IsOwnLink m setting entries change (suc d) r place link

  pub own_stays : (B : WorldState Config Node → Type 0) (members : ℕ) (owners : ℕ → Owners) (devices : List (RecordedState Config Node))
      (slot : SlotState) → IsKept change members entries owners devices slot → (d : ℕ) (r : RecordedState Config Node)
      → slice_get devices d ≡ Some r → (event : DeviceEvent) (h : Happened Config Node) → StaysThere m setting B OwnAt slot.sides d r event h
  own_stays B members owners devices slot k d r here event h side there place link found keeps own =
      own_there m setting change members entries owners devices slot k d r here event h side there place link found keeps own
