-- A step that brings a world to rest is of a change set and at a device by their numbers from 1, or the end of an operator's session.
use Rattle.std.proofs.Common.{◌≡◌, ◌≤◌, ℕ, ◌-◌, List, length, Bool, true, false, Option, Some, None, is_some, slice_get, cond, refl, subst}
use Rattle.nm_proto.specs.declared.plan.Event.{Event}
use Rattle.nm_proto.specs.declared.plan.Event.TheVariants.{Leave, Lose, Break, Deliver, Answer, Turn}
use Rattle.nm_proto.specs.declared.journal.Entry.{Entry}
use Rattle.nm_history.specs.History.{RecordedState}
use Rattle.nm_wire.specs.Wire.{WireState}
use Rattle.nm_manager.specs.Queues.{is_ready_in}
use Rattle.nm_manager.specs.Manager.{ManagerState, wire_in}
use Rattle.nm_world.specs.declared.drain.Rule.{Rule}
use Rattle.nm_world.specs.declared.drain.Rule.TheVariants as rules
use Rattle.nm_world.specs.World.{Setting, WorldState, core_of, manager_in, has_on, operator_at, undelivered, replies_on}
use Rattle.nm_world.specs.Drain.{event_if, is_left, lose_link, lose_first, is_stranded, is_awaited, deliver_by, answer_by, found_by, found_of, at_pair, at_devices, leave_by, leave_on, leave_of, leaves, ready_at, first_ready, loses_links, goes_on, goes_on_with, drain_of, drain_event}
use Rattle.nm_world.proofs.Numbered.{found_in, one_of}

-- what such a step names
abbrev pub IsStep : Event → Type 0
IsStep (Turn change) = 1 ≤ change
IsStep (Deliver change device link) = 1 ≤ change
IsStep (Answer change device link number) = (1 ≤ change) × (1 ≤ device)
IsStep (Break change device) = (1 ≤ change) × (1 ≤ device)
IsStep (Lose change device link) = 1 ≤ change
IsStep (Leave operator device) = Unit {0}
IsStep _ = ⊥

made : (b : Bool) (event x : Event) → IsStep event → event_if b event ≡ Some x → IsStep x
made true event x step e = subst IsStep (let same : event ≡ x = cc in same) step
made false event x step e = absurd (let none : None ≡ Some x = e in cc)

module _ {Config Node : Type 0} (r : RecordedState Config Node) (links : WireState) (change device : ℕ) (numbered : 1 ≤ change) (placed : 1 ≤ device) where
  loses : (link : ℕ) (x : Event) → lose_link r links change device link ≡ Some x → IsStep x
  unfolding lose_link
  loses link x e = made (is_left r links link) (Lose change device link) x numbered e

  loses_one : (x : Event) → lose_first r links change device ≡ Some x → IsStep x
  loses_one x e = let f = found_in (lose_link r links change device) 1 (length links.links) x e in loses f.number x f.found

  delivers : (current : Option ℕ) (x : Event) → deliver_by r links change device current ≡ Some x → IsStep x
  delivers None x e = absurd (let none : None ≡ Some x = e in cc)
  delivers (Some link) x e = made (is_some (undelivered r links link)) (Deliver change device link) x numbered e

  answers : (current : Option ℕ) (x : Event) → answer_by links change device current ≡ Some x → IsStep x
  answers None x e = absurd (let none : None ≡ Some x = e in cc)
  answers (Some link) x e = made (is_awaited links link) (Answer change device link (replies_on links link)) x (numbered, placed) e

  by_rule : (rule : Rule) (x : Event) → found_by rule r links change device ≡ Some x → IsStep x
  by_rule rules.Lose x e = loses_one x e
  by_rule rules.Break x e = made (is_stranded r links) (Break change device) x (numbered, placed) e
  by_rule rules.Deliver x e = delivers links.current x e
  by_rule rules.Answer x e = answers links.current x e

module _ {Config Node : Type 0} (devices : List (RecordedState Config Node)) (state : ManagerState) where
  found_so : (rule : Rule) (change device : ℕ) → 1 ≤ change → 1 ≤ device → (there : Option (RecordedState Config Node)) (x : Event) → found_of devices state rule change device there ≡ Some x → IsStep x
  found_so rule change device numbered placed None x e = absurd (let none : None ≡ Some x = e in cc)
  found_so rule change device numbered placed (Some r) x e = by_rule r (wire_in state change device) change device numbered placed rule x e

  pair_so : (rule : Rule) (change device : ℕ) → 1 ≤ change → 1 ≤ device → (x : Event) → at_pair devices state rule change device ≡ Some x → IsStep x
  unfolding at_pair
  pair_so rule change device numbered placed x e = found_so rule change device numbered placed (slice_get devices (device - 1)) x e

  devices_so : (rule : Rule) (change : ℕ) → 1 ≤ change → (x : Event) → at_devices devices state rule change ≡ Some x → IsStep x
  unfolding at_devices
  devices_so rule change numbered x e = let f = found_in (at_pair devices state rule change) 1 (length devices) x e in pair_so rule change f.number numbered f.from x f.found

  goes_so : (change : ℕ) → 1 ≤ change → (x : Event) → goes_on devices state change ≡ Some x → IsStep x
  goes_so change numbered x e =
      one_of IsStep (at_devices devices state rules.Break change) _ x (devices_so rules.Break change numbered)
      (λ y. one_of IsStep (at_devices devices state rules.Deliver change) _ y (devices_so rules.Deliver change numbered)
      (λ z. one_of IsStep (at_devices devices state rules.Answer change) (Some (Turn change)) z (devices_so rules.Answer change numbered)
      (λ turn is. subst IsStep (let same : Turn change ≡ turn = cc in same) numbered))) e

module _ {Config Node : Type 0} (devices : List (RecordedState Config Node)) (operators : List (List (Option ℕ))) where
  leaves_by : (number device : ℕ) (operator : Option (List (Option ℕ))) (r : Option (RecordedState Config Node)) (x : Event)
      → leave_by devices operators number device operator r ≡ Some x → IsStep x
  leaves_by number device None r x e = absurd (let none : None ≡ Some x = e in cc)
  leaves_by number device (Some operator) None x e = absurd (let none : None ≡ Some x = e in cc)
  leaves_by number device (Some operator) (Some r) x e = made (is_some (has_on operator r (device - 1))) (Leave number device) x tt e

  leave_so : (number device : ℕ) (x : Event) → leave_on devices operators number device ≡ Some x → IsStep x
  unfolding leave_on
  leave_so number device x e = leaves_by number device (operator_at operators number) (slice_get devices (device - 1)) x e

  operator_so : (number : ℕ) (x : Event) → leave_of devices operators number ≡ Some x → IsStep x
  unfolding leave_of
  operator_so number x e = let f = found_in (leave_on devices operators number) 1 (length devices) x e in leave_so number f.number x f.found

  leaves_so : (x : Event) → leaves devices operators ≡ Some x → IsStep x
  leaves_so x e = let f = found_in (leave_of devices operators) 1 (length operators) x e in operator_so f.number x f.found

is_ready_at : (ready : Bool) (change x : ℕ) → cond ready (Some change) None ≡ Some x → change ≡ x
is_ready_at true change x e = cc
is_ready_at false change x e = absurd (let none : None ≡ Some x = e in cc)

ready_so : (entries : List Entry) (change x : ℕ) → ready_at entries change ≡ Some x → change ≡ x
unfolding ready_at
ready_so entries change x e = is_ready_at (is_ready_in entries change) change x e

first_ready_so : (changes : ℕ) (entries : List Entry) (x : ℕ) → first_ready changes entries ≡ Some x → 1 ≤ x
first_ready_so changes entries x e =
    let f = found_in (ready_at entries) 1 changes x e in
    subst (λ change. 1 ≤ change) (ready_so entries f.number x f.found) f.from

module _ {Config Node : Type 0} (devices : List (RecordedState Config Node)) (state : ManagerState) where
  goes_with : (ready : Option ℕ) (x : Event) → ((change : ℕ) → ready ≡ Some change → 1 ≤ change) → goes_on_with devices state ready ≡ Some x → IsStep x
  goes_with None x numbered e = absurd (let none : None ≡ Some x = e in cc)
  goes_with (Some change) x numbered e = goes_so devices state change (numbered change refl) x e

  loses_so : (changes : ℕ) (x : Event) → loses_links devices state changes ≡ Some x → IsStep x
  loses_so changes x e =
      let f = found_in (at_devices devices state rules.Lose) 1 changes x e in
      devices_so devices state rules.Lose f.number f.from x f.found

  step_so : (changes : ℕ) (operators : List (List (Option ℕ))) (x : Event) → drain_of devices state changes operators ≡ Some x → IsStep x
  step_so changes operators x e =
      one_of IsStep (leaves devices operators) _ x (leaves_so devices operators)
      (λ y. one_of IsStep (loses_links devices state changes) (goes_on_with devices state (first_ready changes state.entries)) y (loses_so changes)
      (λ z. goes_with (first_ready changes state.entries) z (first_ready_so changes state.entries))) e

pub drain_event_is_step : {Config TheEdit Node : Type 0} (setting : Setting TheEdit) (w : WorldState Config Node) (x : Event) → drain_event setting w ≡ Some x → IsStep x
drain_event_is_step setting w x e = step_so w.devices (manager_in (core_of w)) (length setting.plans) w.operators x e
