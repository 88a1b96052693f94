-- What the history of every device is.
use Rattle.std.specs.Prelude.{◌≡◌}
use Rattle.nm_proto.specs.Content.{Meaning, TablesState}
use Rattle.nm_device.specs.Device.{DeviceState, IsSteady}
use Rattle.nm_history.specs.History.{RecordedState, replay, IsLegal}
use Rattle.nm_history.specs.Whole.{began_of, IsWhole}
use Rattle.nm_history.specs.Locks.{RespectsLocks}

-- a history that leads from a device to another, and what it tells: each reply is that of one device that does one thing
-- after another, running changes only by one commit whole or its exact undoing, and neither changes what others have
-- locked. The device that it leads to is steady again
pub record Leads {Config TheEdit Node : Type 0} (m : Meaning Config TheEdit Node) (tables : TablesState TheEdit)
    (first : DeviceState Config Node) (r : RecordedState Config Node) : Type 0 where
  pub legal : IsLegal m tables first r.history
  pub whole : IsWhole m tables first (began_of first.pending) r.history
  pub locks : RespectsLocks m tables first r.history
  pub reaches : replay m tables first r.history ≡ r.device
  pub steady : IsSteady m r.device
