-- Where no link is left to close and no change set is ready, no link of any has a side at a device that is open: so nothing is undelivered.
use Rattle.std.proofs.Common.{◌≡◌, ◌∙◌, ℕ, zero, suc, ◌+◌, ◌-◌, ◌≤◌, ◌<◌, Bool, true, false, cond, not, ◌&&◌, ◌||◌, List, length, Option, Some, None, IfSome, is_some, option_and_then, slice_get, refl, sym, subst, arith}
use Rattle.std.proofs.lemmas.Option.{none-some}
use Rattle.nm_proto.specs.declared.journal.Entry.{Entry}
use Rattle.nm_proto.specs.declared.message.Request.{Request}
use Rattle.nm_proto.specs.declared.plan.Event.{Event}
use Rattle.nm_proto.specs.declared.plan.Event.TheVariants.{Lose, Turn}
use Rattle.nm_history.specs.History.{RecordedState}
use Rattle.nm_wire.specs.Link.{LinkState, asked_on, outstanding, session_of}
use Rattle.nm_wire.specs.Wire.{WireState, is_current, is_open_link, link_at}
use Rattle.nm_manager.specs.Queues.{is_ready_in}
use Rattle.nm_manager.specs.Slot.{SideState, SlotState, side_at, wire_of_side}
use Rattle.nm_manager.specs.Manager.{ManagerState, wire_in, wire_of}
use Rattle.nm_world.specs.World.{Setting, WorldState, core_of, is_session_open, is_side_open, manager_in}
use Rattle.nm_world.specs.Drain.{answer_on, at_devices, at_pair, break_on, deliver_on, drain_event, event_if, first_from, first_ready, found_or, goes_on, goes_on_with, is_left, leaves, lose_first, lose_link, loses_links}
use Rattle.nm_world.specs.Report.{any_from, has_undelivered, is_undelivered}
use Rattle.nm_safety.proofs.Basics.{never}
use Rattle.nm_outcome_laws.proofs.settled.Queue.{none_at, not_ready}

-- ---- a world at rest

-- nothing is left of it to do
pub record IsOver {Config TheEdit Node : Type 0} (setting : Setting TheEdit) (w : WorldState Config Node) : Type 0 where
  pub links : loses_links w.devices (manager_in (core_of w)) (length setting.plans) ≡ None
  pub ready : first_ready (length setting.plans) w.entries ≡ None

none_of : {A : Type 0} (found rest : Option A) → found_or found rest ≡ None → (found ≡ None) × (rest ≡ None)
none_of None rest e = (refl, e)
none_of (Some x) rest e = absurd (none-some x (sym e))

module _ {Config TheEdit Node : Type 0} (setting : Setting TheEdit) (w : WorldState Config Node) where
  abbrev state : ManagerState
  state = manager_in (core_of w)

  abbrev on_some : (ℕ → RecordedState Config Node → Option Event) → ℕ → Option (RecordedState Config Node) → Option Event
  on_some by device None = None
  on_some by device (Some r) = by device r

  abbrev finds : (ℕ → RecordedState Config Node → Option Event) → Option Event
  finds by = first_from (λ device. on_some by device (slice_get w.devices (device - 1))) 1 (length w.devices)

  no_three : (change : ℕ) (first second third : Option Event) → found_or first (found_or second (found_or third (Some (Turn change)))) ≡ None → ⊥
  no_three change (Some x) second third e = none-some x (sym e)
  no_three change None (Some x) third e = none-some x (sym e)
  no_three change None None (Some x) e = none-some x (sym e)
  no_three change None None None e = none-some (Turn change) (sym e)

  -- a change set that is ready has a next step
  goes_some : (change : ℕ) → goes_on w.devices state change ≡ None → ⊥
  unfolding at_devices at_pair
  goes_some change e =
      no_three change (finds (λ device r. break_on r (wire_in state change device) change device))
      (finds (λ device r. deliver_on r (wire_in state change device) change device))
      (finds (λ device r. answer_on (wire_in state change device) change device)) e

  none_ready : (ready : Option ℕ) → goes_on_with w.devices state ready ≡ None → ready ≡ None
  none_ready None e = refl
  none_ready (Some change) e = absurd (goes_some change e)

  pub rest_over : drain_event setting w ≡ None → IsOver setting w
  rest_over e =
      let later = none_of (leaves w.devices w.operators) _ e in
      let parts = none_of (loses_links w.devices state (length setting.plans)) _ later.1 in
      record { links = parts.0; ready = none_ready (first_ready (length setting.plans) w.entries) parts.1 }

-- a link is current only where the change set is ready, of one, and of each
abbrev pub HasReady : List Entry → ℕ → SlotState → Type 0
HasReady entries change slot = (d : ℕ) → IfSome (slice_get slot.sides d) (λ side. is_some side.wire.current ≡ true → is_ready_in entries change ≡ true)

abbrev pub AllReady : {Config Node : Type 0} → WorldState Config Node → Type 0
AllReady w = (place : ℕ) → IfSome (slice_get w.slots place) (HasReady w.entries (suc place))

-- ---- one link

none_if : (b : Bool) (event : Event) → event_if b event ≡ None → b ≡ false
none_if true event e = absurd (none-some event (sym e))
none_if false event e = refl

not_left : (b c : Bool) → (b && not c) ≡ false → b ≡ true → c ≡ true
not_left true true e h = refl
not_left true false e h = absurd (let f : true ≡ false = e in cc)
not_left false c e h = never h

opens : (a b : Bool) (asked : Option Request) → is_some (cond b (cond a asked None) None) ≡ true → (a && b) ≡ true
opens true true asked h = refl
opens true false asked h = never h
opens false true asked h = never h
opens false false asked h = never h

has_current : (links : List LinkState) (current : Option ℕ) (number : ℕ) → is_current (record { links = links; current = current }) number ≡ true → is_some current ≡ true
has_current links None number h = never h
has_current links (Some other) number h = refl

module _ {Config Node : Type 0} (r : RecordedState Config Node) (wire : WireState) where
  side_of : (found : Option LinkState) → is_some (cond (is_session_open r (option_and_then session_of found)) (option_and_then outstanding found) None) ≡ true
      → (is_open_link found && is_session_open r (option_and_then session_of found)) ≡ true
  side_of None h = never h
  side_of (Some link) h = opens link.is_open (is_session_open r (session_of link)) (asked_on link.way) h

  undelivered_opens : (number : ℕ) → is_undelivered r wire number ≡ true → is_side_open r wire number ≡ true
  unfolding is_undelivered
  undelivered_opens number h = side_of (link_at wire number) h

  not_lost : (change device number : ℕ) → lose_first r wire change device ≡ None → 1 ≤ number → number < 1 + length wire.links → is_left r wire number ≡ false
  unfolding lose_link
  not_lost change device number e low high =
      none_if (is_left r wire number) (Lose change device number) (none_at (lose_link r wire change device) 1 (length wire.links) number e low high)

  -- where one is undelivered, a link is current
  current_of : (change device number : ℕ) → lose_first r wire change device ≡ None → 1 ≤ number → number < 1 + length wire.links → is_undelivered r wire number ≡ true
      → is_some wire.current ≡ true
  current_of change device number e low high h =
      has_current wire.links wire.current number
      (not_left (is_side_open r wire number) (is_current wire number) (not_lost change device number e low high) (undelivered_opens number h))

none_off : (one other : Bool) → one ≡ false → other ≡ false → (one || other) ≡ false
none_off true other e f = absurd (let g : true ≡ false = e in cc)
none_off false other e f = f

none_passes : (test : ℕ → Bool) (number count : ℕ) → ((at : ℕ) → number ≤ at → at < number + count → test at ≡ false) → any_from test number count ≡ false
unfolding any_from
none_passes test number zero all = refl
none_passes test number (suc count) all =
    none_off (test number) (any_from test (number + 1) count) (all number (omega arith) (omega arith))
    (none_passes test (number + 1) count (λ at low high. all at (omega (arith, low)) (omega (arith, high))))

-- ---- all of them

module _ {Config TheEdit Node : Type 0} (setting : Setting TheEdit) (w : WorldState Config Node) (over : IsOver setting w) (current : AllReady w) where
  module _ (of : ℕ → Option Event) (at : ℕ → ℕ → Option Event) (first : (change : ℕ) → of change ≡ first_from (at change) 1 (length w.devices))
      (there : (change device : ℕ) (r : RecordedState Config Node) → slice_get w.devices (device - 1) ≡ Some r
      → at change device ≡ lose_first r (wire_in (manager_in (core_of w)) change device) change device) where
    lost_by : first_from of 1 (length setting.plans) ≡ None → (change device : ℕ) (r : RecordedState Config Node) → 1 ≤ change → change ≤ length setting.plans
        → 1 ≤ device → device ≤ length w.devices → slice_get w.devices (device - 1) ≡ Some r
        → lose_first r (wire_in (manager_in (core_of w)) change device) change device ≡ None
    lost_by e change device r low high least last here =
        let one : of change ≡ None = none_at of 1 (length setting.plans) change e low (omega (arith, high)) in
        let two : at change device ≡ None = none_at (at change) 1 (length w.devices) device (sym (first change) ∙ one) least (omega (arith, last)) in
        sym (there change device r here) ∙ two

  -- no link that isn't current is left to any device
  lost_in : (change device : ℕ) (r : RecordedState Config Node) → 1 ≤ change → change ≤ length setting.plans → 1 ≤ device → device ≤ length w.devices
      → slice_get w.devices (device - 1) ≡ Some r → lose_first r (wire_in (manager_in (core_of w)) change device) change device ≡ None
  unfolding at_devices at_pair
  lost_in change device r low high least last here =
      lost_by _ _ (λ one. refl) (λ one other found there. rw there refl) over.links change device r low high least last here

  -- a link is current only where its change set is ready
  side_ready : (R : Type 0) (found : Option SideState) → IfSome found (λ side. is_some side.wire.current ≡ true → R) → is_some (wire_of_side found).current ≡ true → R
  side_ready R None k h = never h
  side_ready R (Some side) k h = k h

  slot_ready : (change device : ℕ) (found : Option SlotState) → IfSome found (HasReady w.entries change) → is_some (wire_of device found).current ≡ true
      → is_ready_in w.entries change ≡ true
  slot_ready change device None k h = never h
  slot_ready change device (Some slot) k h = side_ready (is_ready_in w.entries change ≡ true) (side_at slot device) (k (device - 1)) h

  able_at : (change : ℕ) → 1 ≤ change → IfSome (slice_get w.slots (change - 1)) (HasReady w.entries change)
  able_at change low = let number : suc (change - 1) ≡ change = omega (arith, low) in subst (λ n. IfSome (slice_get w.slots (change - 1)) (HasReady w.entries n)) number (current (change - 1))

  no_current : (change device : ℕ) → 1 ≤ change → change ≤ length setting.plans → is_some (wire_in (manager_in (core_of w)) change device).current ≡ true → ⊥
  no_current change device low high h =
      let ready : is_ready_in w.entries change ≡ true = slot_ready change device (slice_get w.slots (change - 1)) (able_at change low) h in
      let off : is_ready_in w.entries change ≡ false = not_ready (length setting.plans) w.entries change over.ready low high in
      absurd (let f : true ≡ false = sym ready ∙ off in cc)

  off_by : (b : Bool) → (b ≡ true → ⊥) → b ≡ false
  off_by true ne = absurd (ne refl)
  off_by false ne = refl

  pub none_undelivered : (change device : ℕ) (r : RecordedState Config Node) → 1 ≤ change → change ≤ length setting.plans → 1 ≤ device → device ≤ length w.devices
      → slice_get w.devices (device - 1) ≡ Some r → has_undelivered r (wire_in (manager_in (core_of w)) change device) ≡ false
  none_undelivered change device r low high first last here =
      let wire : WireState = wire_in (manager_in (core_of w)) change device in
      let lost : lose_first r wire change device ≡ None = lost_in change device r low high first last here in
      none_passes (is_undelivered r wire) 1 (length wire.links)
      (λ number one few. off_by (is_undelivered r wire number)
      (λ h. no_current change device low high (current_of r wire change device number lost one few h)))
