-- A world that is brought to rest is one after a longer run, so it is as every run's.
use Rattle.std.proofs.Common.{ℕ, List}
use Rattle.nm_proto.specs.declared.plan.Event.{Event}
use Rattle.nm_proto.specs.Content.{Meaning, Laws}
use Rattle.nm_world.specs.World.{Setting, run, start}
use Rattle.nm_world.specs.Drain.{drained}
use Rattle.nm_safety.specs.Safe.{IsProper}
use Rattle.nm_safety.proofs.Drained.{drained_too}
use Rattle.nm_commit_laws.specs.Brings.{BringsAlone}
use Rattle.nm_commit_laws.proofs.brings.Alone.{run_brings}

pub drained_brings : {Config TheEdit Node : Type 0} (m : Meaning Config TheEdit Node) (laws : Laws m) (setting : Setting TheEdit)
    (running : List Config) (events : List Event) (steps : ℕ) → IsProper {Node = Node} m setting running events
    → BringsAlone m setting running (drained m setting steps (run m setting (start setting running) events))
drained_brings m laws setting running events steps proper =
    drained_too m laws setting running (BringsAlone m setting running) (run_brings m laws setting running) events steps proper
