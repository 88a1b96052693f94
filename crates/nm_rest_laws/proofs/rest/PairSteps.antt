-- What happens at one device of one change set, in a world in which nothing is left to close.
use Rattle.std.proofs.Common.{◌≡◌, ◌∙◌, ◌⊎◌, inl, inr, ℕ, zero, suc, ◌+◌, ◌-◌, ◌≤◌, ◌<◌, nat_eq, Bool, true, false, ◌&&◌, List, length, Option, Some, None, IfSome, slice_get, slice_set, refl, sym, ap, subst, arith}
use Rattle.std.proofs.lemmas.Bool.Decides.{nat_tests}
use Rattle.std.proofs.lemmas.Option.{none-some, slice_get_within}
use Rattle.nm_proto.specs.Content.{Meaning}
use Rattle.nm_proto.specs.Plan.{devices_in}
use Rattle.nm_sessions.specs.Sessions.{is_open}
use Rattle.nm_history.specs.History.{RecordedState}
use Rattle.nm_decider.specs.declared.seat.Seat.{Seat}
use Rattle.nm_decider.specs.Course.{CourseState}
use Rattle.nm_wire.specs.Link.{LinkState, session_of}
use Rattle.nm_manager.specs.Slot.{SideState, SlotState, wire_of_side}
use Rattle.nm_world.specs.World.{Setting, CoreState, is_session_open, given_on}
use Rattle.nm_safety.specs.Support.{IsKept, IsLinked, IsOwned, IsOperator}
use Rattle.nm_safety.proofs.Lists.{some_is, set_other, down}
use Rattle.nm_safety.proofs.Managed.{kept_here, planned_by, others_stay}
use Rattle.nm_safety.proofs.Entries.{nat_same}
use Rattle.nm_rest_laws.specs.Closing.{sum_from}
use Rattle.nm_rest_laws.proofs.rest.Measure.{pair_rank, rank_at, slot_rank, undecided_rank}
use Rattle.nm_rest_laws.proofs.rest.Sums.{sum_within}
use Rattle.nm_safety.proofs.Wires.{set_there}
use Rattle.nm_safety.proofs.Places.{set_length}
use Rattle.nm_rest_laws.proofs.rest.Holding.{wire_at, given_of}
use Rattle.nm_rest_laws.proofs.rest.Lasting.{IsLasting}
use Rattle.nm_rest_laws.proofs.rest.Calm.{IsCalm, AllCurrent, IsOpenAt}

pub record IsPairStep {Config Node : Type 0} (w now : CoreState Config Node) (p d : ℕ) : Type 0 where
  pub slot : SlotState
  pub there : slice_get w.slots p ≡ Some slot
  pub seat : Seat
  pub here : slice_get slot.course.seats d ≡ Some seat
  pub side : SideState
  pub at : slice_get slot.sides d ≡ Some side
  pub r : RecordedState Config Node
  pub device : slice_get w.devices d ≡ Some r
  pub new_course : CourseState
  pub new_seat : Seat
  pub new_side : SideState
  pub new_r : RecordedState Config Node
  pub verdict : new_course.verdict ≡ slot.course.verdict
  pub seats : new_course.seats ≡ slice_set slot.course.seats d new_seat
  pub slots : now.slots ≡ slice_set w.slots p (record { course = new_course; sides = slice_set slot.sides d new_side })
  pub entries : now.entries ≡ w.entries
  pub operators : now.operators ≡ w.operators
  pub devices : now.devices ≡ slice_set w.devices d new_r
  pub falls : suc (pair_rank slot.course.verdict (Some new_seat) (Some new_side) (Some new_r)) ≤ pair_rank slot.course.verdict (Some seat) (Some side) (Some r)
  pub current : AllCurrent r side.wire → AllCurrent new_r new_side.wire
  pub sessions : (t : ℕ) → is_open new_r.device.sessions t ≡ true → (is_open r.device.sessions t ≡ true) ⊎ (t ≡ r.device.sessions.last + 1)

-- one of them is less
module _ (f g : ℕ → ℕ) (most : (k : ℕ) → g k ≤ f k) (k : ℕ) (less : suc (g k) ≤ f k) where
  less_by : (low : ℕ) (a b : ℕ) → b ≤ a → (low + 1 ≤ k → suc b ≤ a) → low ≤ k → (same : Bool) → nat_eq k low ≡ same → suc (g low + b) ≤ f low + a
  less_by low a b all later from true e =
      let is : k ≡ low = nat_same k low e in
      let here : suc (g low) ≤ f low = subst (λ n. suc (g n) ≤ f n) is less in
      omega (arith, here, all)
  less_by low a b all later from false e = let one = later (above (differs k low e)) in omega (arith, one, most low)
    where
      differs : (a b : ℕ) → nat_eq a b ≡ false → a ≡ b → ⊥
      differs a b e f = grind (arith, nat_tests)

      above : (k ≡ low → ⊥) → low + 1 ≤ k
      above ne = omega (arith, from, ne)

  pub sum_less : (low count : ℕ) → low ≤ k → k < low + count → suc (sum_from g low count) ≤ sum_from f low count
  unfolding sum_from
  sum_less low zero from below = absurd (omega (arith, from, below))
  sum_less low (suc count) from below =
      less_by low (sum_from f (low + 1) count) (sum_from g (low + 1) count) (sum_within f g most (low + 1) count)
      (λ above. sum_less (low + 1) count above (omega (arith, below))) from (nat_eq k low) refl

module _ {Config TheEdit Node : Type 0} (m : Meaning Config TheEdit Node) (setting : Setting TheEdit) (n : ℕ) (w now : CoreState Config Node) (k : IsLasting m setting n w) (p d : ℕ) (s : IsPairStep w now p d) where
  abbrev new_slot : SlotState
  new_slot = record { course = s.new_course; sides = slice_set s.slot.sides d s.new_side }

  slot_now : slice_get now.slots p ≡ Some new_slot
  slot_now = ap (λ slots. slice_get slots p) s.slots ∙ set_there w.slots p s.slot new_slot s.there

  count_now : length now.devices ≡ length w.devices
  count_now = ap length s.devices ∙ set_length w.devices d s.new_r

  -- ---- less is left

  rank_here : (j : ℕ) → j ≡ d → pair_rank s.new_course.verdict (slice_get s.new_course.seats j) (slice_get new_slot.sides j) (slice_get now.devices j) ≡ pair_rank s.slot.course.verdict (Some s.new_seat) (Some s.new_side) (Some s.new_r)
  rank_here j e =
      ap (λ i. pair_rank s.new_course.verdict (slice_get s.new_course.seats i) (slice_get new_slot.sides i) (slice_get now.devices i)) e
      ∙ ap (λ v. pair_rank v (slice_get s.new_course.seats d) (slice_get new_slot.sides d) (slice_get now.devices d)) s.verdict
      ∙ ap (λ o. pair_rank s.slot.course.verdict o (slice_get new_slot.sides d) (slice_get now.devices d)) (ap (λ l. slice_get l d) s.seats ∙ set_there s.slot.course.seats d s.seat s.new_seat s.here)
      ∙ ap (λ o. pair_rank s.slot.course.verdict (Some s.new_seat) o (slice_get now.devices d)) (set_there s.slot.sides d s.side s.new_side s.at)
      ∙ ap (λ o. pair_rank s.slot.course.verdict (Some s.new_seat) (Some s.new_side) o) (ap (λ l. slice_get l d) s.devices ∙ set_there w.devices d s.r s.new_r s.device)

  rank_before : (j : ℕ) → j ≡ d → pair_rank s.slot.course.verdict (slice_get s.slot.course.seats j) (slice_get s.slot.sides j) (slice_get w.devices j) ≡ pair_rank s.slot.course.verdict (Some s.seat) (Some s.side) (Some s.r)
  rank_before j e =
      ap (λ i. pair_rank s.slot.course.verdict (slice_get s.slot.course.seats i) (slice_get s.slot.sides i) (slice_get w.devices i)) e
      ∙ ap (λ o. pair_rank s.slot.course.verdict o (slice_get s.slot.sides d) (slice_get w.devices d)) s.here
      ∙ ap (λ o. pair_rank s.slot.course.verdict (Some s.seat) o (slice_get w.devices d)) s.at
      ∙ ap (λ o. pair_rank s.slot.course.verdict (Some s.seat) (Some s.side) o) s.device

  rank_other : (j : ℕ) → (j ≡ d → ⊥) → pair_rank s.new_course.verdict (slice_get s.new_course.seats j) (slice_get new_slot.sides j) (slice_get now.devices j) ≡ pair_rank s.slot.course.verdict (slice_get s.slot.course.seats j) (slice_get s.slot.sides j) (slice_get w.devices j)
  rank_other j ne =
      ap (λ v. pair_rank v (slice_get s.new_course.seats j) (slice_get new_slot.sides j) (slice_get now.devices j)) s.verdict
      ∙ ap (λ o. pair_rank s.slot.course.verdict o (slice_get new_slot.sides j) (slice_get now.devices j)) (ap (λ l. slice_get l j) s.seats ∙ set_other s.slot.course.seats d j s.new_seat ne)
      ∙ ap (λ o. pair_rank s.slot.course.verdict (slice_get s.slot.course.seats j) o (slice_get now.devices j)) (set_other s.slot.sides d j s.new_side ne)
      ∙ ap (λ o. pair_rank s.slot.course.verdict (slice_get s.slot.course.seats j) (slice_get s.slot.sides j) o) (ap (λ l. slice_get l j) s.devices ∙ set_other w.devices d j s.new_r ne)

  less_at : (i : ℕ) → i - 1 ≡ d → suc (rank_at now.devices new_slot i) ≤ rank_at w.devices s.slot i
  less_at i e = let one = rank_here (i - 1) e in let two = rank_before (i - 1) e in omega (arith, one, two, s.falls)

  most_at : (i : ℕ) → rank_at now.devices new_slot i ≤ rank_at w.devices s.slot i
  most_at i = by_place (nat_eq (i - 1) d) refl
    where
      differs : (a b : ℕ) → nat_eq a b ≡ false → a ≡ b → ⊥
      differs a b e f = grind (arith, nat_tests)

      by_place : (b : Bool) → nat_eq (i - 1) d ≡ b → rank_at now.devices new_slot i ≤ rank_at w.devices s.slot i
      by_place true e = let one = less_at i (nat_same (i - 1) d e) in omega (arith, one)
      by_place false e = let one = rank_other (i - 1) (differs (i - 1) d e) in omega (arith, one)

  pub rank_falls : suc (slot_rank now.devices (slice_get now.slots p)) ≤ slot_rank w.devices (slice_get w.slots p)
  rank_falls =
      let within : d < length w.devices = slice_get_within w.devices d s.r s.device in
      let sums : suc (sum_from (rank_at now.devices new_slot) 1 (length w.devices)) ≤ sum_from (rank_at w.devices s.slot) 1 (length w.devices) =
      sum_less (rank_at w.devices s.slot) (rank_at now.devices new_slot) most_at (suc d) (less_at (suc d) (place d)) 1 (length w.devices) (omega arith) (omega (arith, within)) in
      let all : suc (undecided_rank s.new_course.verdict + sum_from (rank_at now.devices new_slot) 1 (length now.devices)) ≤ undecided_rank s.slot.course.verdict + sum_from (rank_at w.devices s.slot) 1 (length w.devices) =
      subst (λ v. suc (undecided_rank v + sum_from (rank_at now.devices new_slot) 1 (length now.devices)) ≤ undecided_rank s.slot.course.verdict + sum_from (rank_at w.devices s.slot) 1 (length w.devices)) (sym s.verdict)
      (subst (λ c. suc (undecided_rank s.slot.course.verdict + sum_from (rank_at now.devices new_slot) 1 c) ≤ undecided_rank s.slot.course.verdict + sum_from (rank_at w.devices s.slot) 1 (length w.devices)) (sym count_now) (omega (arith, sums))) in
      subst (λ o. suc (slot_rank now.devices o) ≤ slot_rank w.devices (slice_get w.slots p)) (sym slot_now)
      (subst (λ o. suc (slot_rank now.devices (Some new_slot)) ≤ slot_rank w.devices o) (sym s.there) all)
    where
      place : (d : ℕ) → suc d - 1 ≡ d
      place d = omega arith

  -- ---- nothing is left to close

  within_last : (q : ℕ) (slot : SlotState) → slice_get w.slots q ≡ Some slot → (side : SideState) → slice_get slot.sides d ≡ Some side → (l : ℕ) (link : LinkState) → slice_get side.wire.links l ≡ Some link
      → (t : ℕ) → session_of link ≡ Some t → t ≤ s.r.device.sessions.last
  within_last q slot there side at l link found t is =
      planned_by m setting w k.supported (suc q) (omega arith) slot (t ≤ s.r.device.sessions.last) (down w.slots q ∙ there)
      (λ plan planned.
      let kept : IsKept (suc q) (devices_in plan.edits) w.entries k.supported.owners w.devices slot = kept_here m setting w k.supported (suc q) (omega arith) plan slot planned (down w.slots q ∙ there) in
      let linked = some_is link (IsLinked (suc q) w.entries (k.supported.owners d) (slice_get w.devices d) l) (slice_get side.wire.links l) found
      (some_is side (λ one. (place : ℕ) → IfSome (slice_get one.wire.links place) (IsLinked (suc q) w.entries (k.supported.owners d) (slice_get w.devices d) place)) (slice_get slot.sides d) at (kept.linked d) l) in
      (some_is s.r (λ x. IsOwned (suc q) (k.supported.owners d) x.device.sessions.last l link) (slice_get w.devices d) s.device linked.owned).opened t is) (slice_get setting.plans (suc q - 1)) refl

  still_open : (t : ℕ) → t ≤ s.r.device.sessions.last → is_open s.new_r.device.sessions t ≡ true → is_open s.r.device.sessions t ≡ true
  still_open t within is = by_old (s.sessions t is)
    where
      by_old : (is_open s.r.device.sessions t ≡ true) ⊎ (t ≡ s.r.device.sessions.last + 1) → is_open s.r.device.sessions t ≡ true
      by_old (inl before) = before
      by_old (inr new) = absurd (omega (arith, within, new))

  open_before : (link : LinkState) → ((t : ℕ) → session_of link ≡ Some t → t ≤ s.r.device.sessions.last) → IsOpenAt s.new_r link → IsOpenAt s.r link
  open_before link within opened = by_parts link.is_open (session_of link) refl opened
    where
      by_parts : (b : Bool) (session : Option ℕ) → session_of link ≡ session → (b && is_session_open s.new_r session) ≡ true → (b && is_session_open s.r session) ≡ true
      by_parts false session e h = h
      by_parts true None e h = h
      by_parts true (Some t) e h = still_open t (within t e) h

  other_current : (q : ℕ) (found : Option SlotState) → slice_get w.slots q ≡ found → AllCurrent s.r (wire_at found d) → AllCurrent s.new_r (wire_at found d)
  other_current q None e all l link l_there opened = absurd (none-some link l_there)
  other_current q (Some slot) e all l link l_there opened = all l link l_there (open_before link (by_side (slice_get slot.sides d) refl l_there) opened)
    where
      by_side : (side : Option SideState) → slice_get slot.sides d ≡ side → slice_get (wire_of_side side).links l ≡ Some link → (t : ℕ) → session_of link ≡ Some t → t ≤ s.r.device.sessions.last
      by_side None at found = absurd (none-some link found)
      by_side (Some side) at found = within_last q slot e side at l link found

  module _ (calm : IsCalm w) where
    current_at : (q j : ℕ) → IfSome (slice_get (slice_set w.devices d s.new_r) j) (λ r. AllCurrent r (wire_at (slice_get (slice_set w.slots p new_slot) q) j))
    current_at q j = others_stay (λ i o. IfSome o (λ r. AllCurrent r (wire_at (slice_get (slice_set w.slots p new_slot) q) i))) w.devices d s.r s.new_r s.device
        (others_stay (λ i o. AllCurrent s.new_r (wire_at o d)) w.slots p s.slot new_slot s.there
        (subst (λ o. AllCurrent s.new_r (wire_of_side o)) (sym (set_there s.slot.sides d s.side s.new_side s.at))
        (s.current (some_is s.r (λ r. AllCurrent r s.side.wire) (slice_get w.devices d) s.device
        (subst (λ wire. IfSome (slice_get w.devices d) (λ r. AllCurrent r wire)) (ap (λ o. wire_at o d) s.there ∙ ap wire_of_side s.at) (calm.current p d)))))
        (λ i ne. other_current i (slice_get w.slots i) refl (some_is s.r (λ r. AllCurrent r (wire_at (slice_get w.slots i) d)) (slice_get w.devices d) s.device (calm.current i d))) q)
        (λ i ne.
        others_stay (λ h o. IfSome (slice_get w.devices i) (λ r. AllCurrent r (wire_at o i))) w.slots p s.slot new_slot s.there
        (subst (λ o. IfSome (slice_get w.devices i) (λ r. AllCurrent r (wire_of_side o))) (sym (set_other s.slot.sides d i s.new_side ne))
        (subst (λ o. IfSome (slice_get w.devices i) (λ r. AllCurrent r (wire_at o i))) s.there (calm.current p i)))
        (λ h nh. calm.current h i) q) j

    given_within : (o t : ℕ) → given_of (slice_get w.operators o) d ≡ Some t → t ≤ s.r.device.sessions.last
    given_within o t given = by_operator (slice_get w.operators o) refl given
      where
        by_operator : (found : Option (List (Option ℕ))) → slice_get w.operators o ≡ found → given_of found d ≡ Some t → t ≤ s.r.device.sessions.last
        by_operator None e g = absurd (none-some t g)
        by_operator (Some operator) e g =
            (some_is s.r (λ r. (session : ℕ) → given_on operator d ≡ Some session → (k.supported.owners d session ≡ None) × (session ≤ r.device.sessions.last)) (slice_get w.devices d) s.device
            (some_is operator (IsOperator k.supported.owners w.devices) (slice_get w.operators o) e (k.supported.operators o) d) t g).1

    nobody_at : (o j t : ℕ) → given_of (slice_get w.operators o) j ≡ Some t → IfSome (slice_get (slice_set w.devices d s.new_r) j) (λ r. is_open r.device.sessions t ≡ false)
    nobody_at o j t given = others_stay (λ i x. given_of (slice_get w.operators o) i ≡ Some t → IfSome x (λ r. is_open r.device.sessions t ≡ false)) w.devices d s.r s.new_r s.device
        (λ g. by_open (is_open s.new_r.device.sessions t) refl (given_within o t g) (some_is s.r (λ r. is_open r.device.sessions t ≡ false) (slice_get w.devices d) s.device (calm.nobody o d t g)))
        (λ i ne g. calm.nobody o i t g) j given
      where
        by_open : (b : Bool) → is_open s.new_r.device.sessions t ≡ b → t ≤ s.r.device.sessions.last → is_open s.r.device.sessions t ≡ false → b ≡ false
        by_open false e within not_before = refl
        by_open true e within not_before = absurd (let f : true ≡ false = sym (still_open t within e) ∙ not_before in cc)

    pub stays_calm : IsCalm now
    stays_calm = record {
      nobody = λ o j t given. subst (λ l. IfSome (slice_get l j) (λ r. is_open r.device.sessions t ≡ false)) (sym s.devices) (nobody_at o j t (ap (λ l. given_of (slice_get l o) j) (sym s.operators) ∙ given));
      current = λ q j.
          subst (λ l. IfSome (slice_get l j) (λ r. AllCurrent r (wire_at (slice_get now.slots q) j))) (sym s.devices)
          (subst (λ l. IfSome (slice_get (slice_set w.devices d s.new_r) j) (λ r. AllCurrent r (wire_at (slice_get l q) j))) (sym s.slots) (current_at q j));
    }
