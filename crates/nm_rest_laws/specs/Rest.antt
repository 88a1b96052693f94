-- How soon a drain is at rest (this project's own).
use Rattle.std.specs.Prelude.{◌≡◌, ◌≢◌, ℕ, ◌+◌, ◌-◌, ◌*◌, ◌^◌, ◌<◌, ◌≤◌, List, [], ◌∷◌, length, None, IfSome, slice_get}
use Rattle.std.specs.List.{All}
use Rattle.nm_proto.specs.declared.plan.PlannedEdit.{PlannedEdit}
use Rattle.nm_proto.specs.declared.plan.Event.{Event}
use Rattle.nm_proto.specs.declared.plan.Event.TheVariants.{Round}
use Rattle.nm_proto.specs.Content.{Meaning}
use Rattle.nm_world.specs.declared.happened.Happened.TheVariants as happened
use Rattle.nm_world.specs.World.{Setting, WorldState, core_of, elementary}
use Rattle.nm_world.specs.Drain.{drain_event, drained}
use Rattle.nm_rest_laws.specs.Closing.{left_to_close}
use Rattle.nm_rest_laws.specs.Turns.{before_turn}

-- an edit is of one of so many devices, which are counted from 1
abbrev pub IsWithin : ℕ → PlannedEdit → Type 0
IsWithin count edit = (1 ≤ edit.device) × (edit.device ≤ count)

-- each change set is of devices that there are
abbrev pub HasDevices : {TheEdit : Type 0} → Setting TheEdit → ℕ → Type 0
HasDevices setting count = (place : ℕ) → IfSome (slice_get setting.plans place) (λ plan. All (IsWithin count) plan.edits)

module _ {Config TheEdit Node : Type 0} (setting : Setting TheEdit) (w : WorldState Config Node) where
  -- in how many steps a drain is at rest at most: it closes what is left to close, and then each change set has its turns and ends
  abbrev pub left_to_rest : ℕ
  left_to_rest = left_to_close setting w + length setting.plans * (before_turn + 1)

  -- the devices' session numbers last so long: each event takes one at most
  abbrev pub HasNumbersToRest : Type 0
  HasNumbersToRest = length w.trail + left_to_rest < 2 ^ 32 - 1

module _ {Config TheEdit Node : Type 0} (m : Meaning Config TheEdit Node) (setting : Setting TheEdit) where
  -- the next step, where there is one, does something
  abbrev pub IsMoving : WorldState Config Node → Type 0
  IsMoving w = IfSome (drain_event setting w) (λ event. (elementary m setting (core_of w) event).happened ≢ happened.Idle)

  -- a drain is at rest in so many steps at most, none of which is idle
  pub record RestsWithin (w : WorldState Config Node) (most : ℕ) : Type 0 where
    pub steps : ℕ
    pub few : steps ≤ most
    pub at_rest : drain_event setting (drained m setting steps w) ≡ None
    pub moves : (n : ℕ) → IsMoving (drained m setting n w)

  -- a drain comes to rest, where numbers last so long
  abbrev pub ComesToRest : WorldState Config Node → Type 0
  ComesToRest w = HasNumbersToRest setting w → RestsWithin w (left_to_rest setting w)

-- ---- the limit of the program

-- how many elementary events an event of a scenario stands for at most: a round has three for each of its turns
abbrev pub elementary_count : Event → ℕ
elementary_count (Round change turns) = 3 * turns
elementary_count _ = 1

-- how many elementary events these are
abbrev pub events_count : List Event → ℕ
events_count [] = 0
events_count (event ∷ events) = elementary_count event + events_count events

-- a drain is at rest before it has taken so many steps, and so it is where it is left after as many
pub record EndsBefore {Config TheEdit Node : Type 0} (m : Meaning Config TheEdit Node) (setting : Setting TheEdit)
    (w : WorldState Config Node) (limit : ℕ) : Type 0 where
  pub steps : ℕ
  pub before : steps < limit
  pub at_rest : drain_event setting (drained m setting steps w) ≡ None
  pub left_at_rest : drain_event setting (drained m setting limit w) ≡ None
