-- What closes something is no turn.
use Rattle.std.proofs.Common.{◌≡◌, ◌∙◌, ℕ, ◌-◌, Bool, true, false, List, length, Option, Some, None, is_some, slice_get, refl, sym, ap}
use Rattle.std.proofs.lemmas.Option.{none-some}
use Rattle.nm_proto.specs.declared.plan.Event.{Event}
use Rattle.nm_proto.specs.declared.plan.Event.TheVariants.{Turn, Leave, Lose}
use Rattle.nm_history.specs.History.{RecordedState}
use Rattle.nm_wire.specs.Wire.{WireState}
use Rattle.nm_manager.specs.Manager.{ManagerState, wire_in}
use Rattle.nm_world.specs.World.{has_on, operator_at}
use Rattle.nm_world.specs.Drain.{first_from, event_if, is_left, lose_link, at_pair, at_devices, leave_by, leave_on, leave_of, leaves, loses_links}
use Rattle.nm_world.proofs.Numbered.{found_in}
use Rattle.nm_rest_laws.proofs.rest.Finding.{true_there}

abbrev pub is_turn : Event → Bool
is_turn (Turn change) = true
is_turn _ = false

pub plain_if : (b : Bool) (event x : Event) → is_turn event ≡ false → event_if b event ≡ Some x → is_turn x ≡ false
plain_if b event x plain e = ap is_turn (sym (true_there b event x e).1) ∙ plain

module _ {Config Node : Type 0} (devices : List (RecordedState Config Node)) (operators : List (List (Option ℕ))) where
  by_plain : (number device : ℕ) (operator : Option (List (Option ℕ))) (found : Option (RecordedState Config Node)) (x : Event) → leave_by devices operators number device operator found ≡ Some x → is_turn x ≡ false
  by_plain number device None found x e = absurd (none-some x e)
  by_plain number device (Some operator) None x e = absurd (none-some x e)
  by_plain number device (Some operator) (Some r) x e = plain_if (is_some (has_on operator r (device - 1))) (Leave number device) x refl e

  on_plain : (number device : ℕ) (x : Event) → leave_on devices operators number device ≡ Some x → is_turn x ≡ false
  unfolding leave_on
  on_plain number device x e = by_plain number device (operator_at operators number) (slice_get devices (device - 1)) x e

  of_plain : (number : ℕ) (x : Event) → leave_of devices operators number ≡ Some x → is_turn x ≡ false
  unfolding leave_of
  of_plain number x e = let f = found_in (leave_on devices operators number) 1 (length devices) x e in on_plain number f.number x f.found

  pub leaves_plain : (x : Event) → leaves devices operators ≡ Some x → is_turn x ≡ false
  leaves_plain x e = let f = found_in (leave_of devices operators) 1 (length operators) x e in of_plain f.number x f.found

module _ {Config Node : Type 0} (devices : List (RecordedState Config Node)) (state : ManagerState) where
  link_plain : (r : RecordedState Config Node) (links : WireState) (change device link : ℕ) (x : Event) → lose_link r links change device link ≡ Some x → is_turn x ≡ false
  unfolding lose_link
  link_plain r links change device link x e = plain_if (is_left r links link) (Lose change device link) x refl e

  lose_plain : (of : ℕ → Option Event) (at : ℕ → ℕ → Option Event) (changes : ℕ) (x : Event) → first_from of 1 changes ≡ Some x → ((change : ℕ) → of change ≡ first_from (at change) 1 (length devices))
      → ((change device : ℕ) (r : RecordedState Config Node) → slice_get devices (device - 1) ≡ Some r → at change device ≡ first_from (lose_link r (wire_in state change device) change device) 1 (length (wire_in state change device).links))
      → ((change device : ℕ) → slice_get devices (device - 1) ≡ None → at change device ≡ None) → is_turn x ≡ false
  lose_plain of at changes x e first there none =
      let one = found_in of 1 changes x e in
      let two = found_in (at one.number) 1 (length devices) x (sym (first one.number) ∙ one.found) in
      by_device one.number two.number (slice_get devices (two.number - 1)) refl two.found
    where
      by_device : (change device : ℕ) (found : Option (RecordedState Config Node)) → slice_get devices (device - 1) ≡ found → at change device ≡ Some x → is_turn x ≡ false
      by_device change device None has e = absurd (none-some x (sym (none change device has) ∙ e))
      by_device change device (Some r) has e =
          let three = found_in (lose_link r (wire_in state change device) change device) 1 (length (wire_in state change device).links) x (sym (there change device r has) ∙ e) in
          link_plain r (wire_in state change device) change device three.number x three.found

  pub loses_plain : (changes : ℕ) (x : Event) → loses_links devices state changes ≡ Some x → is_turn x ≡ false
  unfolding at_devices at_pair
  loses_plain changes x e = lose_plain _ _ changes x e (λ change. refl) (λ change device r has. rw has refl) (λ change device has. rw has refl)
