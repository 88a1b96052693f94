-- What a world tells of confirmed commits, by replaying the histories of its devices (this project's own, over RFC 6470 section 2.2).
use Rattle.std.specs.Prelude.{◌≡◌, ℕ, List, Some, IfSome, is_some, slice_get}
use Rattle.nm_proto.specs.Content.{Meaning}
use Rattle.nm_device.specs.Device.{fresh_device}
use Rattle.nm_history.specs.History.{IsLegal, RecordedState, replay}
use Rattle.nm_notify.specs.Notices.{notices_in}
use Rattle.nm_notify.specs.Replayed.{notices_replayed}
use Rattle.nm_notify.specs.Runs.{AreRuns}
use Rattle.nm_world.specs.World.{Setting, WorldState}

-- what is read from the history of the device at a place is what replaying that tells, entry by entry, from the configuration that stands there;
-- and it is whole runs, of which the last alone may want its end, and does exactly where a commit is pending at the device
pub record TellsAsReplayed {Config TheEdit Node : Type 0} (m : Meaning Config TheEdit Node) (setting : Setting TheEdit) (running : List Config)
    (place : ℕ) (r : RecordedState Config Node) : Type 0 where
  pub began : Config
  pub begins : slice_get running place ≡ Some began
  pub legal : IsLegal m setting.tables (fresh_device began) r.history
  pub reaches : replay m setting.tables (fresh_device began) r.history ≡ r.device
  pub replays : notices_in r.history ≡ notices_replayed m setting.tables 1 (fresh_device began) r.history
  pub runs : AreRuns (notices_in r.history) (is_some r.device.pending)

-- the same of each device of a world that began with these configurations
abbrev pub TellAsReplayed : {Config TheEdit Node : Type 0} → Meaning Config TheEdit Node → Setting TheEdit → List Config → WorldState Config Node → Type 0
TellAsReplayed m setting running w = (place : ℕ) → IfSome (slice_get w.devices place) (TellsAsReplayed m setting running place)
