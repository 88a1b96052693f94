-- How much a drain has to close before change sets go on (this project's own): the sessions of operators, and the device's sides
-- of links that aren't current.
use Rattle.std.specs.Prelude.{◌≡◌, ℕ, zero, suc, ◌+◌, ◌-◌, ◌≤◌, List, length, Option, Some, None, slice_get}
use Rattle.nm_proto.specs.Content.{Meaning}
use Rattle.nm_history.specs.History.{RecordedState}
use Rattle.nm_wire.specs.Wire.{WireState}
use Rattle.nm_manager.specs.Manager.{ManagerState, wire_in}
use Rattle.nm_world.specs.World.{Setting, WorldState, core_of, manager_in}
use Rattle.nm_world.specs.Drain.{lose_link, leave_on, leaves, loses_links, drained}

-- one where something is found
abbrev pub one_if : {A : Type 0} → Option A → ℕ
one_if None = 0
one_if (Some x) = 1

-- the sum of what so many numbers, from one on, give
unfoldable pub sum_from : (ℕ → ℕ) → ℕ → ℕ → ℕ
sum_from give number zero = 0
sum_from give number (suc count) = give number + sum_from give (number + 1) count

module _ {Config Node : Type 0} (devices : List (RecordedState Config Node)) (operators : List (List (Option ℕ))) where
  -- an operator has a session on a device
  abbrev pub has_session : ℕ → ℕ → ℕ
  has_session number device = one_if (leave_on devices operators number device)

  -- on how many devices an operator has a session
  abbrev pub sessions_of : ℕ → ℕ
  sessions_of number = sum_from (has_session number) 1 (length devices)

  -- how many sessions operators have
  abbrev pub sessions_left : ℕ
  sessions_left = sum_from sessions_of 1 (length operators)

module _ {Config Node : Type 0} where
  -- how many links of a change set to a device aren't current and have an open side there
  abbrev pub left_on : ℕ → ℕ → WireState → Option (RecordedState Config Node) → ℕ
  left_on change device links None = 0
  left_on change device links (Some r) = sum_from (λ link. one_if (lose_link r links change device link)) 1 (length links.links)

module _ {Config Node : Type 0} (devices : List (RecordedState Config Node)) (state : ManagerState) where
  -- how much is left to do for a change set at a device
  abbrev pub left_at : ℕ → ℕ → ℕ
  left_at change device = left_on change device (wire_in state change device) (slice_get devices (device - 1))

  -- how much is left to do for a change set
  abbrev pub left_of : ℕ → ℕ
  left_of change = sum_from (left_at change) 1 (length devices)

  -- how many such links so many change sets have
  abbrev pub links_left : ℕ → ℕ
  links_left changes = sum_from left_of 1 changes

module _ {Config TheEdit Node : Type 0} (setting : Setting TheEdit) (w : WorldState Config Node) where
  -- what is left to close
  abbrev pub left_to_close : ℕ
  left_to_close = sessions_left w.devices w.operators + links_left w.devices (manager_in (core_of w)) (length setting.plans)

  -- nothing is
  pub record IsClosed : Type 0 where
    pub sessions : leaves w.devices w.operators ≡ None
    pub links : loses_links w.devices (manager_in (core_of w)) (length setting.plans) ≡ None

-- a drain comes there in so many steps at most
pub record ClosesWithin {Config TheEdit Node : Type 0} (m : Meaning Config TheEdit Node) (setting : Setting TheEdit)
    (w : WorldState Config Node) (most : ℕ) : Type 0 where
  pub steps : ℕ
  pub few : steps ≤ most
  pub closed : IsClosed setting (drained m setting steps w)
