-- Searches that pass over what is known to find nothing.
use Rattle.std.proofs.Common.{◌≡◌, ℕ, zero, suc, ◌+◌, ◌-◌, ◌<◌, ◌≤◌, ◌⊎◌, inl, inr, Bool, true, false, ◌&&◌, not, Option, Some, None, List, length, slice_get, refl, sym, ap, ◌∙◌, subst, arith}
use Rattle.std.proofs.lemmas.Bool.{cases_lt}
use Rattle.nm_proto.specs.declared.plan.Event.TheVariants.{Lose}
use Rattle.nm_history.specs.History.{RecordedState}
use Rattle.nm_wire.specs.Wire.{WireState, is_open_at, is_left_open, is_current, session_at}
use Rattle.nm_manager.specs.Manager.{ManagerState, wire_in}
use Rattle.nm_world.specs.World.{is_session_open}
use Rattle.nm_world.specs.declared.drain.Rule.TheVariants as rules
use Rattle.nm_world.specs.Drain.{first_from, event_if, lose_link, lose_first, found_of, at_pair, at_devices}
use Rattle.nm_world.proofs.Loops.{not_here, nowhere, first_from-none}
use Rattle.nm_world.proofs.Searches.{from_start}

module _ {A : Type 0} (find : ℕ → Option A) (n : ℕ) where
  -- one more is passed over
  passed : (k : ℕ) → (k < n) ⊎ (n ≤ k) → find (k + 1) ≡ None → first_from find (k + 1) (n - k) ≡ first_from find 1 n
      → first_from find (k + 1 + 1) (n - (k + 1)) ≡ first_from find 1 n
  passed k (inl less) is so_far = not_here find k n (first_from find 1 n) so_far less is
  passed k (inr past) is so_far =
      let none : n - (k + 1) ≡ 0 = omega (arith, past) in
      ap (first_from find (k + 1 + 1)) none ∙ first_from-none find (k + 1 + 1) ∙ nowhere find k n (first_from find 1 n) so_far past

  -- so many are passed over
  pub skipped : (k : ℕ) → ((j : ℕ) → j ≤ k → find j ≡ None) → first_from find (k + 1) (n - k) ≡ first_from find 1 n
  skipped zero h = from_start find n
  skipped (suc k) h =
      let e : k + 1 ≡ suc k = omega arith in
      subst (λ m. first_from find (m + 1) (n - m) ≡ first_from find 1 n) e
      (passed k (cases_lt k n) (h (k + 1) (omega arith)) (skipped k (λ j le. h j (omega (arith, le)))))

  -- none is found
  pub unfound : ((j : ℕ) → find j ≡ None) → None ≡ first_from find 1 n
  unfound h = nowhere find n n (first_from find 1 n) (skipped n (λ j le. h j)) (omega arith)

not_lost : (is_open session current : Bool) → (is_open && not current) ≡ false → ((is_open && session) && not current) ≡ false
not_lost true true current h = h
not_lost true false current h = refl
not_lost false session current h = refl

module _ {Config Node : Type 0} where
  -- a link that isn't left open as the manager knows isn't lost
  pub not_left : (r : RecordedState Config Node) (links : WireState) (change device link : ℕ) → is_left_open links link ≡ false → lose_link r links change device link ≡ None
  unfolding lose_link
  not_left r links change device link h =
      ap (λ b. event_if b (Lose change device link)) (not_lost (is_open_at links link) (is_session_open r (session_at links link)) (is_current links link) h)

  -- where none is left open none is lost
  pub none_lost : (r : RecordedState Config Node) (links : WireState) (change device : ℕ) → ((link : ℕ) → is_left_open links link ≡ false) → None ≡ lose_first r links change device
  none_lost r links change device h = unfound (lose_link r links change device) (length links.links) (λ link. not_left r links change device link (h link))

  -- none before the first that is left open
  pub none_before : (r : RecordedState Config Node) (links : WireState) (change device first : ℕ) → is_left_open links first ≡ true
      → ((other : ℕ) → other < first → is_left_open links other ≡ false) → (link : ℕ) → link ≤ first - 1 → lose_link r links change device link ≡ None
  none_before r links change device zero found least link le = absurd cc
  none_before r links change device (suc first) found least link le = not_left r links change device link (least link (omega (arith, le)))

  none_of : (devices : List (RecordedState Config Node)) (state : ManagerState) (change device : ℕ) (r : Option (RecordedState Config Node)) → ((link : ℕ) → is_left_open (wire_in state change device) link ≡ false)
      → found_of devices state rules.Lose change device r ≡ None
  none_of devices state change device None h = refl
  none_of devices state change device (Some r) h = sym (none_lost r (wire_in state change device) change device h)

  -- at no device
  pub none_anywhere : (devices : List (RecordedState Config Node)) (state : ManagerState) (change : ℕ) → ((device link : ℕ) → is_left_open (wire_in state change device) link ≡ false)
      → None ≡ at_devices devices state rules.Lose change
  unfolding at_devices at_pair
  none_anywhere devices state change h =
      unfound (at_pair devices state rules.Lose change) (length devices) (λ device. none_of devices state change device (slice_get devices (device - 1)) (h device))
