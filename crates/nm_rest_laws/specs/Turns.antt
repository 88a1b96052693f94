-- How soon a drain comes to the manager's next turn (this project's own).
use Rattle.std.specs.Prelude.{◌≡◌, ℕ, ◌+◌, ◌-◌, ◌^◌, ◌<◌, ◌≤◌, length, Option, Some, None}
use Rattle.nm_proto.specs.declared.plan.Event.{Event}
use Rattle.nm_proto.specs.declared.plan.Event.TheVariants.{Turn}
use Rattle.nm_proto.specs.Content.{Meaning}
use Rattle.nm_world.specs.World.{Setting, WorldState}
use Rattle.nm_world.specs.Drain.{first_ready, drain_event, drained}
use Rattle.nm_rest_laws.specs.Closing.{left_to_close}

-- how many steps are before a turn at most, once nothing is left to close
abbrev pub before_turn : ℕ
before_turn = 9320

-- the turn of a change set, where there is one
abbrev pub turn_of : Option ℕ → Option Event
turn_of None = None
turn_of (Some change) = Some (Turn change)

module _ {Config TheEdit Node : Type 0} (setting : Setting TheEdit) (w : WorldState Config Node) where
  -- the next step is the turn of the least change set that is ready. Where none is there is no next step: the world is at rest
  abbrev pub IsAtTurn : Type 0
  IsAtTurn = drain_event setting w ≡ turn_of (first_ready (length setting.plans) w.entries)

  -- in how many steps a drain comes there at most
  abbrev pub left_to_turn : ℕ
  left_to_turn = left_to_close setting w + before_turn

  -- devices, whose session numbers end below 2^32 - 1, give new ones all the while: each event takes one at most
  abbrev pub HasNumbers : Type 0
  HasNumbers = length w.trail + left_to_turn < 2 ^ 32 - 1

-- a drain comes to rest or to a turn in so many steps at most
pub record TurnsWithin {Config TheEdit Node : Type 0} (m : Meaning Config TheEdit Node) (setting : Setting TheEdit)
    (w : WorldState Config Node) (most : ℕ) : Type 0 where
  pub steps : ℕ
  pub few : steps ≤ most
  pub at_turn : IsAtTurn setting (drained m setting steps w)

-- a drain comes there, where numbers last so long
abbrev pub ComesToTurn : {Config TheEdit Node : Type 0} → Meaning Config TheEdit Node → Setting TheEdit → WorldState Config Node → Type 0
ComesToTurn m setting w = HasNumbers setting w → TurnsWithin m setting w (left_to_turn setting w)
