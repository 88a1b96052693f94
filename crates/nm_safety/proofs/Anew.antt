-- What is kept of one change set where the manager starts anew.
use Rattle.std.proofs.Common.{◌≡◌, ◌∙◌, ◌⊎◌, inl, inr, ℕ, Bool, true, false, not, ◌&&◌, List, [], ◌∷◌, map, Option, Some, None, IfSome, is_some, option_map, slice_get, refl, sym, ap, subst, if◌then◌else◌}
use Rattle.std.proofs.lemmas.Option.{slice_get-map}
use Rattle.nm_proto.specs.declared.journal.Entry.{Entry}
use Rattle.nm_proto.specs.declared.journal.Verdict.{Verdict}
use Rattle.nm_history.specs.History.{RecordedState}
use Rattle.nm_recovery.specs.Recovery.{is_started, is_ended_in, verdict_in}
use Rattle.nm_decider_stage.specs.declared.stage.Stage.TheVariants.{Live}
use Rattle.nm_decider.specs.declared.seat.Seat.{Seat}
use Rattle.nm_decider.specs.Course as course
use Rattle.nm_decider.specs.Course.{CourseState, seats_from, seat_count}
use Rattle.nm_wire.specs.Link.{LinkState}
use Rattle.nm_manager.specs.Slot.{SideState, SlotState, cut_off, to_commit}
use Rattle.nm_manager.specs.Manager.{starts_anew}
use Rattle.nm_safety.specs.Pair.{PairHolds}
use Rattle.nm_safety.specs.Slots.{AllHold, HoldsAt}
use Rattle.nm_safety.proofs.Slots.{anew_holds}
use Rattle.nm_safety.proofs.PairSteps.{anew_stays}
use Rattle.nm_safety.specs.Support.{Owners, IsLinked, IsAtRest, IsKept, IsOrdered}
use Rattle.nm_safety.proofs.Keeps.{already_broken}
use Rattle.nm_safety.proofs.SlotLinks.{links_at, cut_links}

no_links_left : (links : List LinkState) → ((place : ℕ) → IfSome (slice_get links place) (λ link. ⊥)) → links ≡ []
no_links_left [] none = refl
no_links_left (link ∷ links) none = absurd (none 0)

every_link : (P Q : LinkState → Type 0) → ((link : LinkState) → P link → Q link) → (found : Option LinkState) → IfSome found P → IfSome found Q
every_link P Q step None h = tt
every_link P Q step (Some link) h = step link h

-- a change set that isn't gone on with has no verdict only where it wasn't submitted
not_begun : (started ended : Bool) (v : Option Verdict) → (started && not ended) ≡ false → v ≡ None → (ended ≡ true → is_some v ≡ true) → started ≡ false
not_begun false ended v goes none has = refl
not_begun true true v goes none has = absurd (let g : false ≡ true = sym (ap is_some none) ∙ has refl in cc)
not_begun true false v goes none has = absurd (let g : true ≡ false = goes in cc)

module _ {Config Node : Type 0} (change members : ℕ) (owners : ℕ → Owners) (devices : List (RecordedState Config Node)) (entries : List Entry) (ordered : IsOrdered change entries) (slot : SlotState)
    (k : IsKept change members entries owners devices slot) where
  abbrev verdict_now : Option Verdict
  verdict_now = verdict_in change entries

  abbrev goes_on : Bool
  goes_on = is_started change entries && not (is_ended_in change entries)

  abbrev with_course : Bool → SlotState
  with_course b = record {
    course = if b then course.recovered_course change members verdict_now else course.new_course change members;
    sides = map (cut_off (to_commit verdict_now)) slot.sides;
  }

  numbered_by : (b : Bool) → (with_course b).course.change ≡ change
  numbered_by true = refl
  numbered_by false = refl

  cut_at : (found : Option SideState) → IfSome (option_map (cut_off (to_commit verdict_now)) found) (λ side. side.wire.current ≡ None)
  cut_at None = tt
  cut_at (Some side) = refl

  all_cut : (d : ℕ) → IfSome (slice_get (map (cut_off (to_commit verdict_now)) slot.sides) d) (λ side. side.wire.current ≡ None)
  all_cut d = subst (λ found. IfSome found (λ side. side.wire.current ≡ None)) (sym (slice_get-map (cut_off (to_commit verdict_now)) slot.sides d)) (cut_at (slice_get slot.sides d))

  known_by : (started ended : Bool) → is_started change entries ≡ started → is_ended_in change entries ≡ ended
      → ((with_course (started && not ended)).course.verdict ≡ verdict_now) ⊎ IsAtRest change members entries (with_course (started && not ended))
  known_by true false s e = inl refl
  known_by true true s e = inr (record { ended = e; seats = refl; cut = all_cut })
  known_by false true s e = inr (record { ended = e; seats = refl; cut = all_cut })
  known_by false false s e = inl (sym (ordered.begun s))

  -- a change set that wasn't submitted has no links
  pub none_made : (d : ℕ) (side : SideState) → slice_get slot.sides d ≡ Some side → goes_on ≡ false → verdict_now ≡ None → side.wire.links ≡ []
  none_made d side there goes none =
      let began : is_started change entries ≡ false = not_begun (is_started change entries) (is_ended_in change entries) verdict_now goes none ordered.ended in
      no_links_left side.wire.links
      (λ place.
      every_link (IsLinked change entries (owners d) (slice_get devices d) place) (λ link. ⊥) (λ link p. absurd (let g : true ≡ false = sym p.begun ∙ began in cc)) (slice_get side.wire.links place)
      (links_at (λ j. IsLinked change entries (owners j) (slice_get devices j)) slot k.linked d side there place))

  -- at rest nothing changes
  rest_at : (seat : Option Seat) (side : Option SideState) (r : Option (RecordedState Config Node)) → IfSome side (λ one. one.wire.current ≡ None) → HoldsAt change verdict_now seat side r
      → HoldsAt change verdict_now seat (option_map (cut_off (to_commit verdict_now)) side) r
  rest_at seat side None cut holds = tt
  rest_at None side (Some r) cut holds = tt
  rest_at (Some seat) None (Some r) cut holds = tt
  rest_at (Some seat) (Some side) (Some r) cut holds = subst (λ wire. PairHolds change verdict_now seat wire r) (already_broken side.wire cut) holds

  not_going : (b : Bool) → is_ended_in change entries ≡ true → (b && not (is_ended_in change entries)) ≡ false
  not_going false e = refl
  not_going true e = ap not e

  holds_by : (slot.course.verdict ≡ verdict_now) ⊎ IsAtRest change members entries slot → AllHold change verdict_now (with_course goes_on) devices
  holds_by (inl of_entries) = anew_holds change verdict_now devices slot k.holds members entries k.in_step of_entries none_made
  holds_by (inr rest) =
      subst (λ b. AllHold change verdict_now (with_course b) devices) (sym (not_going (is_started change entries) rest.ended))
      (λ j.
      subst (λ side. HoldsAt change verdict_now (slice_get (seats_from members (Live 0) 1 seat_count) j) side (slice_get devices j)) (sym (slice_get-map (cut_off (to_commit verdict_now)) slot.sides j))
      (rest_at (slice_get (seats_from members (Live 0) 1 seat_count) j) (slice_get slot.sides j) (slice_get devices j) (rest.cut j)
      (subst (λ seats. HoldsAt change verdict_now (slice_get seats j) (slice_get slot.sides j) (slice_get devices j)) rest.seats (k.holds j))))

  pub anew_kept : IsKept change members entries owners devices (starts_anew entries change members slot)
  anew_kept = record {
    numbered = numbered_by goes_on;
    in_step = anew_stays change members entries slot k.in_step.sides ordered.begun;
    known = known_by (is_started change entries) (is_ended_in change entries) refl refl;
    holds = holds_by k.known;
    linked = cut_links (λ d. IsLinked change entries (owners d) (slice_get devices d)) slot k.linked (to_commit verdict_now);
    tells = k.tells;
  }
