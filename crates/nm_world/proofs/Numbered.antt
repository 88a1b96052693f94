-- The next step of a drain names a change set of those that there are, or none, raises no clock and is no crash.
use Rattle.std.proofs.Common.{◌≡◌, ◌≤◌, ◌<◌, ℕ, zero, suc, ◌+◌, ◌-◌, List, length, Bool, true, false, Option, Some, None, is_some, slice_get, cond, refl, ◌∙◌, subst, arith}
use Rattle.nm_proto.specs.declared.plan.Event.{Event}
use Rattle.nm_proto.specs.declared.plan.Event.TheVariants.{Leave, Lose, Break, Deliver, Answer, Turn}
use Rattle.nm_proto.specs.declared.journal.Entry.{Entry}
use Rattle.nm_history.specs.History.{RecordedState}
use Rattle.nm_wire.specs.Wire.{WireState}
use Rattle.nm_manager.specs.Queues.{is_ready_in}
use Rattle.nm_manager.specs.Manager.{ManagerState, wire_in}
use Rattle.nm_world.specs.declared.drain.Rule.{Rule}
use Rattle.nm_world.specs.declared.drain.Rule.TheVariants as rules
use Rattle.nm_world.specs.World.{change_in, is_crash, has_on, operator_at, undelivered, replies_on}
use Rattle.nm_world.specs.Drain.{found_or, first_from, event_if, is_left, lose_link, lose_first, is_stranded, is_awaited, deliver_by, answer_by, found_by, found_of, at_pair, at_devices, leave_by, leave_on, leave_of, leaves, ready_at, first_ready, loses_links, goes_on, goes_on_with, drain_of}
use Rattle.nm_world.specs.Runs.{seconds_in}

-- an event of this change set that raises no clock and is no crash
pub record IsOf (change : ℕ) (event : Event) : Type 0 where
  pub change_is : change_in event ≡ change
  pub at_once : seconds_in event ≡ 0
  pub no_crash : is_crash event ≡ false

module _ {A : Type 0} where
  -- where something is found, it is found of one of the numbers
  pub record IsFound (find : ℕ → Option A) (low high : ℕ) (x : A) : Type 0 where
    pub number : ℕ
    pub from : low ≤ number
    pub below : number < high
    pub found : find number ≡ Some x

  wider : (find : ℕ → Option A) (low high : ℕ) (x : A) → IsFound find (low + 1) (low + 1 + high) x → IsFound find low (low + suc high) x
  wider find low high x f = record { number = f.number; from = omega (arith, f.from); below = omega (arith, f.below); found = f.found }

  here_or : (find : ℕ → Option A) (low count : ℕ) (x : A) (here rest : Option A) → find low ≡ here → (rest ≡ Some x → IsFound find (low + 1) (low + 1 + count) x)
      → found_or here rest ≡ Some x → IsFound find low (low + suc count) x
  here_or find low count x None rest is later e = wider find low count x (later e)
  here_or find low count x (Some y) rest is later e = record { number = low; from = omega arith; below = omega arith; found = is ∙ e }

  pub found_in : (find : ℕ → Option A) (low count : ℕ) (x : A) → first_from find low count ≡ Some x → IsFound find low (low + count) x
  unfolding first_from
  found_in find low zero x e = absurd (let none : None ≡ Some x = e in cc)
  found_in find low (suc count) x e = here_or find low count x (find low) (first_from find (low + 1) count) refl (found_in find (low + 1) count x) e

  -- the first of two
  pub one_of : (P : A → Type 0) (first second : Option A) (x : A) → ((y : A) → first ≡ Some y → P y) → ((y : A) → second ≡ Some y → P y) → found_or first second ≡ Some x → P x
  one_of P None second x a b e = b x e
  one_of P (Some y) second x a b e = a x e

made : (b : Bool) (event x : Event) (change : ℕ) → IsOf change event → event_if b event ≡ Some x → IsOf change x
made true event x change is e = subst (IsOf change) (let same : event ≡ x = cc in same) is
made false event x change is e = absurd (let none : None ≡ Some x = e in cc)

module _ {Config Node : Type 0} (r : RecordedState Config Node) (links : WireState) (change device : ℕ) where
  loses : (link : ℕ) (x : Event) → lose_link r links change device link ≡ Some x → IsOf change x
  unfolding lose_link
  loses link x e = made (is_left r links link) (Lose change device link) x change (record { change_is = refl; at_once = refl; no_crash = refl }) e

  loses_one : (x : Event) → lose_first r links change device ≡ Some x → IsOf change x
  loses_one x e = let f = found_in (lose_link r links change device) 1 (length links.links) x e in loses f.number x f.found

  delivers : (current : Option ℕ) (x : Event) → deliver_by r links change device current ≡ Some x → IsOf change x
  delivers None x e = absurd (let none : None ≡ Some x = e in cc)
  delivers (Some link) x e = made (is_some (undelivered r links link)) (Deliver change device link) x change (record { change_is = refl; at_once = refl; no_crash = refl }) e

  answers : (current : Option ℕ) (x : Event) → answer_by links change device current ≡ Some x → IsOf change x
  answers None x e = absurd (let none : None ≡ Some x = e in cc)
  answers (Some link) x e = made (is_awaited links link) (Answer change device link (replies_on links link)) x change (record { change_is = refl; at_once = refl; no_crash = refl }) e

  by_rule : (rule : Rule) (x : Event) → found_by rule r links change device ≡ Some x → IsOf change x
  by_rule rules.Lose x e = loses_one x e
  by_rule rules.Break x e = made (is_stranded r links) (Break change device) x change (record { change_is = refl; at_once = refl; no_crash = refl }) e
  by_rule rules.Deliver x e = delivers links.current x e
  by_rule rules.Answer x e = answers links.current x e

module _ {Config Node : Type 0} (devices : List (RecordedState Config Node)) (state : ManagerState) where
  found_so : (rule : Rule) (change device : ℕ) (there : Option (RecordedState Config Node)) (x : Event) → found_of devices state rule change device there ≡ Some x → IsOf change x
  found_so rule change device None x e = absurd (let none : None ≡ Some x = e in cc)
  found_so rule change device (Some r) x e = by_rule r (wire_in state change device) change device rule x e

  pair_so : (rule : Rule) (change device : ℕ) (x : Event) → at_pair devices state rule change device ≡ Some x → IsOf change x
  unfolding at_pair
  pair_so rule change device x e = found_so rule change device (slice_get devices (device - 1)) x e

  pub devices_so : (rule : Rule) (change : ℕ) (x : Event) → at_devices devices state rule change ≡ Some x → IsOf change x
  unfolding at_devices
  devices_so rule change x e = let f = found_in (at_pair devices state rule change) 1 (length devices) x e in pair_so rule change f.number x f.found

  goes_so : (change : ℕ) (x : Event) → goes_on devices state change ≡ Some x → IsOf change x
  goes_so change x e =
      one_of (IsOf change) (at_devices devices state rules.Break change) _ x (devices_so rules.Break change)
      (λ y. one_of (IsOf change) (at_devices devices state rules.Deliver change) _ y (devices_so rules.Deliver change)
      (λ z. one_of (IsOf change) (at_devices devices state rules.Answer change) (Some (Turn change)) z (devices_so rules.Answer change)
      (λ turn is. subst (IsOf change) (let same : Turn change ≡ turn = cc in same) (record { change_is = refl; at_once = refl; no_crash = refl })))) e

module _ {Config Node : Type 0} (devices : List (RecordedState Config Node)) (operators : List (List (Option ℕ))) where
  leaves_by : (number device : ℕ) (operator : Option (List (Option ℕ))) (r : Option (RecordedState Config Node)) (x : Event)
      → leave_by devices operators number device operator r ≡ Some x → IsOf 0 x
  leaves_by number device None r x e = absurd (let none : None ≡ Some x = e in cc)
  leaves_by number device (Some operator) None x e = absurd (let none : None ≡ Some x = e in cc)
  leaves_by number device (Some operator) (Some r) x e = made (is_some (has_on operator r (device - 1))) (Leave number device) x 0 (record { change_is = refl; at_once = refl; no_crash = refl }) e

  leave_so : (number device : ℕ) (x : Event) → leave_on devices operators number device ≡ Some x → IsOf 0 x
  unfolding leave_on
  leave_so number device x e = leaves_by number device (operator_at operators number) (slice_get devices (device - 1)) x e

  operator_so : (number : ℕ) (x : Event) → leave_of devices operators number ≡ Some x → IsOf 0 x
  unfolding leave_of
  operator_so number x e = let f = found_in (leave_on devices operators number) 1 (length devices) x e in leave_so number f.number x f.found

  leaves_so : (x : Event) → leaves devices operators ≡ Some x → IsOf 0 x
  leaves_so x e = let f = found_in (leave_of devices operators) 1 (length operators) x e in operator_so f.number x f.found

-- an event of one of so many change sets, or of none, that raises no clock and is no crash
pub record IsAmong (changes : ℕ) (event : Event) : Type 0 where
  pub few : change_in event ≤ changes
  pub at_once : seconds_in event ≡ 0
  pub no_crash : is_crash event ≡ false

among : (changes change : ℕ) (x : Event) → change ≤ changes → IsOf change x → IsAmong changes x
among changes change x few is = record { few = omega (arith, few, is.change_is); at_once = is.at_once; no_crash = is.no_crash }

is_ready_at : (entries : List Entry) (ready : Bool) (change x : ℕ) → cond ready (Some change) None ≡ Some x → change ≡ x
is_ready_at entries true change x e = cc
is_ready_at entries false change x e = absurd (let none : None ≡ Some x = e in cc)

ready_so : (entries : List Entry) (change x : ℕ) → ready_at entries change ≡ Some x → change ≡ x
unfolding ready_at
ready_so entries change x e = is_ready_at entries (is_ready_in entries change) change x e

first_ready_so : (changes : ℕ) (entries : List Entry) (x : ℕ) → first_ready changes entries ≡ Some x → x ≤ changes
first_ready_so changes entries x e =
    let f = found_in (ready_at entries) 1 changes x e in
    omega (arith, f.below, ready_so entries f.number x f.found)

module _ {Config Node : Type 0} (devices : List (RecordedState Config Node)) (state : ManagerState) where
  goes_with : (changes : ℕ) (ready : Option ℕ) (x : Event) → ((change : ℕ) → ready ≡ Some change → change ≤ changes) → goes_on_with devices state ready ≡ Some x → IsAmong changes x
  goes_with changes None x few e = absurd (let none : None ≡ Some x = e in cc)
  goes_with changes (Some change) x few e = among changes change x (few change refl) (goes_so devices state change x e)

  loses_so : (changes : ℕ) (x : Event) → loses_links devices state changes ≡ Some x → IsAmong changes x
  loses_so changes x e =
      let f = found_in (at_devices devices state rules.Lose) 1 changes x e in
      among changes f.number x (omega (arith, f.below)) (devices_so devices state rules.Lose f.number x f.found)

  pub step_is_among : (changes : ℕ) (operators : List (List (Option ℕ))) (x : Event) → drain_of devices state changes operators ≡ Some x → IsAmong changes x
  step_is_among changes operators x e =
      one_of (IsAmong changes) (leaves devices operators) _ x (λ y is. among changes 0 y (omega arith) (leaves_so devices operators y is))
      (λ y. one_of (IsAmong changes) (loses_links devices state changes) (goes_on_with devices state (first_ready changes state.entries)) y (loses_so changes)
      (λ z. goes_with changes (first_ready changes state.entries) z (first_ready_so changes state.entries))) e
