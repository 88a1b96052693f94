-- The devices before anything has happened.
use Rattle.std.proofs.Common.{List, map}
use Rattle.std.specs.List.{All}
use Rattle.std.proofs.lemmas.List.Elements.{All-map}
use Rattle.nm_proto.specs.Content.{Meaning}
use Rattle.nm_device.specs.Device.{IsSound}
use Rattle.nm_history.specs.History.{RecordedState, recorded}
use Rattle.nm_world.specs.World.{IsFirst, AreSound}

-- fresh devices of configurations that belong are sound
pub fresh_sound : {Config TheEdit Node : Type 0} (m : Meaning Config TheEdit Node) (running : List Config)
    → All (IsFirst m) running → AreSound m (map recorded running)
fresh_sound {Config} {TheEdit} {Node} m running h = All-map (λ (r : RecordedState Config Node). IsSound m r.device) recorded running
    (λ k d within. record {
      belong = record { stores_belong = record { running = (h k d within).belongs; candidate = tt }; before_belongs = tt };
      steady = record { valid = (h k d within).valid; before_valid = tt; guarded = tt };
    })
