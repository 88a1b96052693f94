-- All on which the safety of a world rests, as each step keeps it (this project's own).
use Rattle.std.specs.Prelude.{ℕ, ◌<◌, List, [], IfSome, slice_get}
use Rattle.nm_proto.specs.Content.{Meaning}
use Rattle.nm_world.specs.World.{Setting, WorldState, core_of}
use Rattle.nm_safety.specs.Safe.{AreSoundFrom, IsProper}
use Rattle.nm_safety.specs.Support.{IsSupported}

-- a world whose devices began with these configurations: its setting is as that of a run, each device's history leads to it, there are no
-- more devices than numbers, and what is kept of change sets, links, sessions and operators goes together
pub record IsUpheld {Config TheEdit Node : Type 0} (m : Meaning Config TheEdit Node) (setting : Setting TheEdit) (running : List Config)
    (w : WorldState Config Node) : Type 0 where
  pub proper : IsProper {Node = Node} m setting running []
  pub sound_devices : AreSoundFrom m setting running w
  pub few_devices : (place : ℕ) → IfSome (slice_get w.devices place) (λ r. place < 32)
  pub supported : IsSupported m setting (core_of w)
