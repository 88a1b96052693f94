-- A world in which nothing is left to close: what a device has open is what the current link of the one ready change set has.
use Rattle.std.proofs.Common.{◌≡◌, ◌∙◌, inl, inr, ℕ, zero, suc, ◌+◌, ◌-◌, ◌≤◌, ◌<◌, ◌==◌, nat_eq, Bool, true, false, cond, not, ◌&&◌, List, [], length, Option, Some, None, IfSome, is_some, option_and_then, slice_get, refl, sym, ap, subst, arith}
use Rattle.std.proofs.lemmas.Bool.Decides.{nat_tests}
use Rattle.std.proofs.lemmas.Option.{none-some, same_Some, slice_get_within}
use Rattle.nm_base.specs.Mask.{mask_contains}
use Rattle.nm_proto.specs.declared.plan.ChangePlan.{ChangePlan}
use Rattle.nm_proto.specs.declared.plan.Event.{Event}
use Rattle.nm_proto.specs.declared.plan.Event.TheVariants.{Leave, Lose}
use Rattle.nm_proto.specs.Content.{Meaning}
use Rattle.nm_proto.specs.Plan.{devices_in}
use Rattle.nm_sessions.specs.Sessions.{is_open}
use Rattle.nm_history.specs.History.{RecordedState}
use Rattle.nm_wire.specs.Link.{LinkState, session_of}
use Rattle.nm_wire.specs.Wire.{WireState, link_at, current_link, is_current, is_open_link}
use Rattle.nm_manager.specs.Queues.{tickets_in, is_ready_in}
use Rattle.nm_manager.specs.Slot.{SideState, SlotState, wire_of_side}
use Rattle.nm_manager.specs.Manager.{ManagerState, wire_of, wire_in}
use Rattle.nm_world.specs.World.{Setting, CoreState, manager_in, is_session_open, is_side_open, given_on, open_on, has_on, operator_at}
use Rattle.nm_world.specs.Drain.{first_from, found_or, event_if, is_left, lose_link, at_pair, at_devices, leave_by, leave_on, leave_of, leaves, loses_links}
use Rattle.nm_safety.proofs.Lists.{some_is, to_some, down}
use Rattle.nm_safety.proofs.Managed.{kept_here, planned_by}
use Rattle.nm_safety.proofs.PairSteps.{pair_at}
use Rattle.nm_safety.specs.Step.{GoWith, GoesWith, IsSeated}
use Rattle.nm_rest_laws.specs.Steady.{IsAble}
use Rattle.nm_decider.specs.declared.seat.Seat.{Seat}
use Rattle.nm_safety.proofs.Entries.{nat_same}
use Rattle.nm_safety.proofs.Ready.{one_ready, HasDevice}
use Rattle.nm_safety.proofs.Tickets.{IsPlanTicket}
use Rattle.nm_rest_laws.proofs.rest.Holding.{wire_at, HasOpen, IsHeld, AllHeld, given_of}
use Rattle.nm_rest_laws.proofs.rest.Lasting.{IsLasting}

abbrev sides_of : Option SlotState → List SideState
sides_of None = []
sides_of (Some slot) = slot.sides

-- the link's side is open at the device
abbrev pub IsOpenAt : {Config Node : Type 0} → RecordedState Config Node → LinkState → Type 0
IsOpenAt r link = (link.is_open && is_session_open r (session_of link)) ≡ true

-- each link with an open side is current
abbrev pub AllCurrent : {Config Node : Type 0} → RecordedState Config Node → WireState → Type 0
AllCurrent r wire = (l : ℕ) (link : LinkState) → slice_get wire.links l ≡ Some link → IsOpenAt r link → wire.current ≡ Some (suc l)

-- nothing is left to close
pub record IsCalm {Config Node : Type 0} (w : CoreState Config Node) : Type 0 where
  pub nobody : (o d t : ℕ) → given_of (slice_get w.operators o) d ≡ Some t → IfSome (slice_get w.devices d) (λ r. is_open r.device.sessions t ≡ false)
  pub current : (p d : ℕ) → IfSome (slice_get w.devices d) (λ r. AllCurrent r (wire_at (slice_get w.slots p) d))

-- ---- from what is found to what stands

module _ {A : Type 0} (find : ℕ → Option A) where
  none_or : (found rest : Option A) → found_or found rest ≡ None → (found ≡ None) × (rest ≡ None)
  none_or None rest e = (refl, e)
  none_or (Some x) rest e = absurd (none-some x (sym e))

  none_next : (low count k : ℕ) → ((low + 1 ≤ k) → (k < low + 1 + count) → find k ≡ None) → find low ≡ None → low ≤ k → k < low + suc count → (b : Bool) → nat_eq k low ≡ b → find k ≡ None
  none_next low count k later here from below true f = ap find (same k low f) ∙ here
    where
      same : (a b : ℕ) → nat_eq a b ≡ true → a ≡ b
      same a b e = grind (arith, nat_tests)
  none_next low count k later here from below false f = let ne = differs k low f in later (above ne) (within ne)
    where
      differs : (a b : ℕ) → nat_eq a b ≡ false → a ≡ b → ⊥
      differs a b e f = grind (arith, nat_tests)

      above : (k ≡ low → ⊥) → low + 1 ≤ k
      above ne = omega (arith, from, ne)

      within : (k ≡ low → ⊥) → k < low + 1 + count
      within ne = omega (arith, below)

  pub none_in : (low count k : ℕ) → first_from find low count ≡ None → low ≤ k → k < low + count → find k ≡ None
  unfolding first_from
  none_in low zero k e from below = absurd (omega (arith, from, below))
  none_in low (suc count) k e from below =
      let both = none_or (find low) (first_from find (low + 1) count) e in
      none_next low count k (none_in (low + 1) count k both.1) both.0 from below (nat_eq k low) refl

is_number : (n : ℕ) → suc n - 1 ≡ n
is_number n = omega arith

none_if : (b : Bool) (event : Event) → event_if b event ≡ None → b ≡ false
none_if true event e = absurd (none-some event (sym e))
none_if false event e = refl

module _ {Config TheEdit Node : Type 0} (m : Meaning Config TheEdit Node) (setting : Setting TheEdit) (n : ℕ) (w : CoreState Config Node) (k : IsLasting m setting n w) where
  abbrev state : ManagerState
  state = manager_in w

  wire_there : (p d : ℕ) → wire_in state (suc p) (suc d) ≡ wire_at (slice_get w.slots p) d
  wire_there p d = ap (wire_of (suc d)) (down w.slots p) ∙ by_slot (slice_get w.slots p)
    where
      by_slot : (slot : Option SlotState) → wire_of (suc d) slot ≡ wire_at slot d
      by_slot None = refl
      by_slot (Some slot) = ap wire_of_side (down slot.sides d)

  -- ---- no operator has a session

  has_none : (r : RecordedState Config Node) (given : Option ℕ) (t : ℕ) → given ≡ Some t → is_some (open_on r given) ≡ false → is_open r.device.sessions t ≡ false
  has_none r None t e h = absurd (none-some t e)
  has_none r (Some u) t e h = subst (λ one. is_open r.device.sessions one ≡ false) (same_Some u t e) (by_open (is_open r.device.sessions u) h)
    where
      by_open : (b : Bool) → is_some (cond b (Some u) None) ≡ false → b ≡ false
      by_open true h = absurd (let f : true ≡ false = h in cc)
      by_open false h = refl

  leave_none : (o d : ℕ) (operator : List (Option ℕ)) (r : RecordedState Config Node) → slice_get w.operators o ≡ Some operator → slice_get w.devices d ≡ Some r → leave_on w.devices w.operators (suc o) (suc d) ≡ None
      → (t : ℕ) → given_on operator d ≡ Some t → is_open r.device.sessions t ≡ false
  unfolding leave_on
  leave_none o d operator r there here e t given =
      let named : operator_at w.operators (suc o) ≡ Some operator = numbered o ∙ down w.operators o ∙ there in
      let device : slice_get w.devices (suc d - 1) ≡ Some r = down w.devices d ∙ here in
      let found : leave_by w.devices w.operators (suc o) (suc d) (Some operator) (Some r) ≡ None =
      ap (λ x. leave_by w.devices w.operators (suc o) (suc d) x (Some r)) (sym named) ∙ ap (leave_by w.devices w.operators (suc o) (suc d) (operator_at w.operators (suc o))) (sym device) ∙ e in
      has_none r (given_on operator d) t given (ap (λ place. is_some (has_on operator r place)) (sym (is_number d)) ∙ none_if (is_some (has_on operator r (suc d - 1))) (Leave (suc o) (suc d)) found)
    where
      numbered : (o : ℕ) → operator_at w.operators (suc o) ≡ slice_get w.operators (suc o - 1)
      numbered o = ap (λ b. cond b None (slice_get w.operators (suc o - 1))) (not_zero o)
        where
          not_zero : (o : ℕ) → (suc o == 0) ≡ false
          not_zero o = grind (arith, nat_tests)

  of_none : (o d : ℕ) → leave_of w.devices w.operators (suc o) ≡ None → suc d < 1 + length w.devices → leave_on w.devices w.operators (suc o) (suc d) ≡ None
  unfolding leave_of
  of_none o d e within = none_in (leave_on w.devices w.operators (suc o)) 1 (length w.devices) (suc d) e (omega arith) within

  nobody_by : leaves w.devices w.operators ≡ None → (o d t : ℕ) (operator : Option (List (Option ℕ))) → slice_get w.operators o ≡ operator → given_of operator d ≡ Some t → IfSome (slice_get w.devices d) (λ r. is_open r.device.sessions t ≡ false)
  nobody_by e o d t None there given = absurd (none-some t given)
  nobody_by e o d t (Some operator) there given =
      to_some (λ r. is_open r.device.sessions t ≡ false) (slice_get w.devices d)
      (λ r here.
      let o_in = slice_get_within w.operators o operator there in
      let d_in = slice_get_within w.devices d r here in
      leave_none o d operator r there here (of_none o d (none_in (leave_of w.devices w.operators) 1 (length w.operators) (suc o) e (omega arith) (omega (arith, o_in))) (omega (arith, d_in))) t given)

  -- ---- no link is left

  not_left : (b c : Bool) → (b && not c) ≡ false → b ≡ true → c ≡ true
  not_left true true e h = refl
  not_left true false e h = absurd (let f : true ≡ false = e in cc)
  not_left false c e h = absurd (let f : false ≡ true = h in cc)

  link_none : (r : RecordedState Config Node) (wire : WireState) (change device l : ℕ) (link : LinkState) → slice_get wire.links l ≡ Some link → lose_link r wire change device (suc l) ≡ None → IsOpenAt r link → wire.current ≡ Some (suc l)
  unfolding lose_link
  link_none r wire change device l link there e opened =
      let at : link_at wire (suc l) ≡ Some link = ap (λ b. cond b None (slice_get wire.links (suc l - 1))) (not_zero l) ∙ down wire.links l ∙ there in
      let side : is_side_open r wire (suc l) ≡ true = ap (λ o. is_open_link o && is_session_open r (option_and_then session_of o)) at ∙ opened in
      number_is wire.current (not_left (is_side_open r wire (suc l)) (is_current wire (suc l)) (none_if (is_left r wire (suc l)) (Lose change device (suc l)) e) side)
    where
      not_zero : (o : ℕ) → (suc o == 0) ≡ false
      not_zero o = grind (arith, nat_tests)

      number_is : (current : Option ℕ) → is_current (record { links = wire.links; current = current }) (suc l) ≡ true → current ≡ Some (suc l)
      number_is None h = absurd (let f : false ≡ true = h in cc)
      number_is (Some other) h = ap Some (sym (same (suc l) other h))
        where
          same : (a b : ℕ) → (a == b) ≡ true → a ≡ b
          same a b e = grind (arith, nat_tests)

  module _ (of : ℕ → Option Event) (at : ℕ → ℕ → Option Event) (first : (change : ℕ) → of change ≡ first_from (at change) 1 (length w.devices))
      (there : (change device : ℕ) (r : RecordedState Config Node) → slice_get w.devices (device - 1) ≡ Some r
      → at change device ≡ first_from (lose_link r (wire_in state change device) change device) 1 (length (wire_in state change device).links)) where
    current_by : (changes : ℕ) → first_from of 1 changes ≡ None → (p d : ℕ) → p < changes → (r : RecordedState Config Node) → slice_get w.devices d ≡ Some r → AllCurrent r (wire_at (slice_get w.slots p) d)
    current_by changes e p d p_in r here l link l_there opened =
        let d_in = slice_get_within w.devices d r here in
        let one : of (suc p) ≡ None = none_in of 1 changes (suc p) e (omega arith) (omega (arith, p_in)) in
        let two : at (suc p) (suc d) ≡ None = none_in (at (suc p)) 1 (length w.devices) (suc d) (sym (first (suc p)) ∙ one) (omega arith) (omega (arith, d_in)) in
        let wire : WireState = wire_in state (suc p) (suc d) in
        let at_link : slice_get wire.links l ≡ Some link = ap (λ v. slice_get v.links l) (wire_there p d) ∙ l_there in
        let l_in = slice_get_within wire.links l link at_link in
        let three : lose_link r wire (suc p) (suc d) (suc l) ≡ None =
        none_in (lose_link r wire (suc p) (suc d)) 1 (length wire.links) (suc l) (sym (there (suc p) (suc d) r (down w.devices d ∙ here)) ∙ two) (omega arith) (omega (arith, l_in)) in
        ap (λ v. v.current) (sym (wire_there p d)) ∙ link_none r wire (suc p) (suc d) l link at_link three opened

  current_in : (changes : ℕ) → loses_links w.devices state changes ≡ None → (p d : ℕ) → p < changes → (r : RecordedState Config Node) → slice_get w.devices d ≡ Some r → AllCurrent r (wire_at (slice_get w.slots p) d)
  unfolding at_devices at_pair
  current_in changes e p d p_in r here = current_by _ _ (λ change. refl) (λ change device one found. rw found refl) changes e p d p_in r here

  slot_in : (p : ℕ) (slot : SlotState) → slice_get w.slots p ≡ Some slot → p < length setting.plans
  slot_in p slot there =
      planned_by m setting w k.supported (suc p) (omega arith) slot (p < length setting.plans) (down w.slots p ∙ there)
      (λ plan planned. slice_get_within setting.plans p plan (sym (down setting.plans p) ∙ planned)) (slice_get setting.plans (suc p - 1)) refl

  current_all : loses_links w.devices state (length setting.plans) ≡ None → (p d : ℕ) (slot : Option SlotState) → slice_get w.slots p ≡ slot → (r : RecordedState Config Node) → slice_get w.devices d ≡ Some r → AllCurrent r (wire_at slot d)
  current_all e p d None there r here = λ l link l_there opened. absurd (none-some link l_there)
  current_all e p d (Some slot) there r here =
      subst (λ o. AllCurrent r (wire_at o d)) there (current_in (length setting.plans) e p d (slot_in p slot there) r here)

  pub calm_if : leaves w.devices w.operators ≡ None → loses_links w.devices state (length setting.plans) ≡ None → IsCalm w
  calm_if e f = record {
    nobody = λ o d t given. nobody_by e o d t (slice_get w.operators o) refl given;
    current = λ p d. to_some (λ r. AllCurrent r (wire_at (slice_get w.slots p) d)) (slice_get w.devices d) (λ r here. current_all f p d (slice_get w.slots p) refl r here);
  }

  -- ---- one change set at a device

  pub seat_by : (p d : ℕ) (slot : SlotState) → slice_get w.slots p ≡ Some slot → (side : SideState) → slice_get slot.sides d ≡ Some side → (P : Type 0)
      → ((plan : ChangePlan) (seat : Seat) → slice_get setting.plans p ≡ Some plan → slice_get slot.course.seats d ≡ Some seat → IsSeated (devices_in plan.edits) (d + 1) seat → GoesWith slot.course.verdict seat side → P) → P
  seat_by p d slot there side at P step =
      planned_by m setting w k.supported (suc p) (omega arith) slot P (down w.slots p ∙ there)
      (λ plan planned.
      let kept = kept_here m setting w k.supported (suc p) (omega arith) plan slot planned (down w.slots p ∙ there) in
      by_seat plan (sym (down setting.plans p) ∙ planned) (slice_get slot.course.seats d) refl (pair_at (suc p) (devices_in plan.edits) w.entries slot kept.in_step d)) (slice_get setting.plans (suc p - 1)) refl
    where
      by_seat : (plan : ChangePlan) → slice_get setting.plans p ≡ Some plan → (seat : Option Seat) → slice_get slot.course.seats d ≡ seat
          → ((o : Option Seat) (q : Option SideState) → slice_get slot.course.seats d ≡ o → slice_get slot.sides d ≡ q → GoWith (devices_in plan.edits) slot.course.verdict (d + 1) o q) → P
      by_seat plan planned None here pair = absurd (pair None (Some side) here at)
      by_seat plan planned (Some seat) here pair = let both = pair (Some seat) (Some side) here at in step plan seat planned here both.0 both.1

  -- the tickets of a change set that has a current link to a device are for that
  for_device : (p d : ℕ) (slot : SlotState) → slice_get w.slots p ≡ Some slot → (side : SideState) → slice_get slot.sides d ≡ Some side → is_some side.wire.current ≡ true → HasDevice w.entries (d + 1) (suc p) (tickets_in w.entries)
  for_device p d slot there side at is i =
      seat_by p d slot there side at (IfSome (slice_get (tickets_in w.entries) i) (λ ticket. nat_eq (suc p) ticket.change ≡ true → mask_contains ticket.devices.0 (d + 1) ≡ true))
      (λ plan seat planned here seated goes.
      to_some (λ ticket. nat_eq (suc p) ticket.change ≡ true → mask_contains ticket.devices.0 (d + 1) ≡ true) (slice_get (tickets_in w.entries) i)
      (λ ticket found same.
      let fits : IsPlanTicket setting.plans ticket = some_is ticket (IsPlanTicket setting.plans) (slice_get (tickets_in w.entries) i) found (k.going.tickets i) in
      let number : suc p ≡ ticket.change = nat_same (suc p) ticket.change same in
      let place : slice_get setting.plans (ticket.change - 1) ≡ Some plan = ap (λ c. slice_get setting.plans (c - 1)) (sym number) ∙ down setting.plans p ∙ planned in
      let devices : ticket.devices.0 ≡ devices_in plan.edits = some_is plan (λ one. ticket.devices.0 ≡ devices_in one.edits) (slice_get setting.plans (ticket.change - 1)) place fits in
      ap (λ mask. mask_contains mask (d + 1)) devices ∙ sym seated.member ∙ goes.member is))

  ready_by : (p d : ℕ) (slot : SlotState) → slice_get w.slots p ≡ Some slot → (side : SideState) → slice_get slot.sides d ≡ Some side → is_some side.wire.current ≡ true → is_ready_in w.entries (suc p) ≡ true
  ready_by p d slot there side at is =
      some_is side (λ one. is_some one.wire.current ≡ true → is_ready_in w.entries (suc p) ≡ true) (slice_get slot.sides d) at ((some_is slot (IsAble (suc p) w.entries) (slice_get w.slots p) there (k.going.slots p)).ready d) is

  one_there : (p q d : ℕ) (slot other : SlotState) → slice_get w.slots p ≡ Some slot → slice_get w.slots q ≡ Some other → (side more : SideState) → slice_get slot.sides d ≡ Some side → slice_get other.sides d ≡ Some more
      → is_some side.wire.current ≡ true → is_some more.wire.current ≡ true → p ≡ q
  one_there p q d slot other there here side more at too is also =
      let same : suc p ≡ suc q = one_ready w.entries (d + 1) (suc p) (suc q) (for_device p d slot there side at is) (for_device q d other here more too also) (ready_by p d slot there side at is) (ready_by q d other here more too also) in
      omega (arith, same)

  alone_by : (p q d : ℕ) (slot other : Option SlotState) → slice_get w.slots p ≡ slot → slice_get w.slots q ≡ other → is_some (wire_at slot d).current ≡ true → is_some (wire_at other d).current ≡ true → p ≡ q
  alone_by p q d None other there here is also = absurd (let f : false ≡ true = is in cc)
  alone_by p q d (Some slot) None there here is also = absurd (let f : false ≡ true = also in cc)
  alone_by p q d (Some slot) (Some other) there here is also = by_sides (slice_get slot.sides d) (slice_get other.sides d) refl refl is also
    where
      by_sides : (side more : Option SideState) → slice_get slot.sides d ≡ side → slice_get other.sides d ≡ more → is_some (wire_of_side side).current ≡ true → is_some (wire_of_side more).current ≡ true → p ≡ q
      by_sides None more at too is also = absurd (let f : false ≡ true = is in cc)
      by_sides (Some side) None at too is also = absurd (let f : false ≡ true = also in cc)
      by_sides (Some side) (Some more) at too is also = one_there p q d slot other there here side more at too is also

  pub alone : (p q d : ℕ) → is_some (wire_in state (suc p) (suc d)).current ≡ true → is_some (wire_in state (suc q) (suc d)).current ≡ true → p ≡ q
  alone p q d is also = alone_by p q d (slice_get w.slots p) (slice_get w.slots q) refl refl (ap (λ v. is_some v.current) (sym (wire_there p d)) ∙ is) (ap (λ v. is_some v.current) (sym (wire_there q d)) ∙ also)

  -- where the current link of a change set has no session, nobody has one there
  module _ (calm : IsCalm w) (p d : ℕ) (slot : SlotState) (there : slice_get w.slots p ≡ Some slot) (side : SideState) (at : slice_get slot.sides d ≡ Some side) (link : LinkState) (cur : current_link side.wire ≡ Some link)
      (is : is_some side.wire.current ≡ true) (none : session_of link ≡ None) (r : RecordedState Config Node) (here : slice_get w.devices d ≡ Some r) where
    wire_at_p : wire_at (slice_get w.slots p) d ≡ side.wire
    wire_at_p = ap (λ o. wire_at o d) there ∙ ap wire_of_side at

    link_is : (l : ℕ) (one : LinkState) → slice_get side.wire.links l ≡ Some one → side.wire.current ≡ Some (suc l) → one ≡ link
    link_is l one found current =
        same_Some one link (sym (ap (option_and_then (link_at side.wire)) current ∙ numbered l ∙ down side.wire.links l ∙ found) ∙ cur)
      where
        numbered : (l : ℕ) → link_at side.wire (suc l) ≡ slice_get side.wire.links (suc l - 1)
        numbered l = ap (λ b. cond b None (slice_get side.wire.links (suc l - 1))) (not_zero l)
          where
            not_zero : (o : ℕ) → (suc o == 0) ≡ false
            not_zero o = grind (arith, nat_tests)

    by_link : (q l t : ℕ) (other : Option SlotState) → slice_get w.slots q ≡ other → (more : Option SideState) → slice_get (sides_of other) d ≡ more → (found : Option LinkState) → slice_get (wire_at other d).links l ≡ found
        → HasOpen found t → is_open r.device.sessions t ≡ true → ⊥
    by_link q l t None o_is more more_is found found_is h open_now = none_open l found found_is h
      where
        none_open : (l : ℕ) (found : Option LinkState) → slice_get [] l ≡ found → HasOpen found t → ⊥
        none_open l None e h = h
        none_open l (Some one) e h = none-some one e
    by_link q l t (Some other) o_is None more_is found found_is h open_now = none_open l found (ap (λ o. slice_get (wire_of_side o).links l) (sym more_is) ∙ found_is) h
      where
        none_open : (l : ℕ) (found : Option LinkState) → slice_get [] l ≡ found → HasOpen found t → ⊥
        none_open l None e h = h
        none_open l (Some one) e h = none-some one e
    by_link q l t (Some other) o_is (Some more) more_is None found_is h open_now = h
    by_link q l t (Some other) o_is (Some more) more_is (Some one) found_is h open_now =
        let here_link : slice_get more.wire.links l ≡ Some one = ap (λ o. slice_get (wire_of_side o).links l) (sym more_is) ∙ found_is in
        let opened : IsOpenAt r one = ap (λ b. b && is_session_open r (session_of one)) h.1 ∙ ap (is_session_open r) h.0 ∙ open_now in
        let current : more.wire.current ≡ Some (suc l) = some_is r (λ x. AllCurrent x more.wire) (slice_get w.devices d) here (subst (λ wire. IfSome (slice_get w.devices d) (λ x. AllCurrent x wire)) (ap (λ o. wire_at o d) o_is ∙ ap wire_of_side more_is) (calm.current q d)) l one here_link opened in
        let same : p ≡ q = one_there p q d slot other there o_is side more at more_is is (ap is_some current) in
        let slots_same : slot ≡ other = same_Some slot other (sym there ∙ ap (slice_get w.slots) same ∙ o_is) in
        let sides_same : side ≡ more = same_Some side more (sym at ∙ ap (λ (s : SlotState). slice_get s.sides d) slots_same ∙ more_is) in
        let it : one ≡ link = link_is l one (ap (λ (s : SideState). slice_get s.wire.links l) sides_same ∙ here_link) (ap (λ (s : SideState). s.wire.current) sides_same ∙ current) in
        none-some t (sym none ∙ sym (ap session_of it) ∙ h.0)

    by_holder : (t : ℕ) → is_open r.device.sessions t ≡ true → IsHeld w.slots w.operators d t → ⊥
    by_holder t open_now (inl (q, (l, h))) = by_link q l t (slice_get w.slots q) refl (slice_get (sides_of (slice_get w.slots q)) d) refl (slice_get (wire_at (slice_get w.slots q) d).links l) refl h open_now
    by_holder t open_now (inr (o, given)) = absurd (let f : true ≡ false = sym open_now ∙ some_is r (λ x. is_open x.device.sessions t ≡ false) (slice_get w.devices d) here (calm.nobody o d t given) in cc)

    pub no_sessions : (t : ℕ) → is_open r.device.sessions t ≡ true → ⊥
    no_sessions t open_now = by_holder t open_now (some_is r (AllHeld w.slots w.operators d) (slice_get w.devices d) here (k.held d) t open_now)
