-- In a run each commit of the manager's that brings no change set leaves running as it was.
use Rattle.std.proofs.Common.{List, slice_get}
use Rattle.nm_proto.specs.declared.plan.Event.{Event}
use Rattle.nm_proto.specs.Content.{Meaning, Laws}
use Rattle.nm_device.specs.Device.{fresh_device}
use Rattle.nm_world.specs.World.{Setting, WorldState, run, start}
use Rattle.nm_safety.specs.Safe.{IsProper}
use Rattle.nm_safety.proofs.Lists.{some_is}
use Rattle.nm_safety.proofs.Start.{begin_supported}
use Rattle.nm_safety.specs.Along.{HistoryAt, IsAlong}
use Rattle.nm_commit_laws.specs.Leaves.{LeavesAlone, LeavesAsIs}
use Rattle.nm_commit_laws.proofs.leaves.Runs.{IsLeaving, run_clean}
use Rattle.nm_commit_laws.proofs.leaves.Start.{begin_clean}

module _ {Config TheEdit Node : Type 0} (m : Meaning Config TheEdit Node) (laws : Laws m) (setting : Setting TheEdit)
    (running : List Config) (events : List Event) (proper : IsProper {Node = Node} m setting running events) where
  abbrev ran : WorldState Config Node
  ran = run m setting (start setting running) events

  left : IsLeaving m laws setting proper.edits proper.few proper.strangers running ran
  left =
      run_clean m laws setting proper.edits proper.few proper.strangers running (start setting running) events proper.given
      (record { before = begin_supported m setting running proper.first; own = begin_clean m setting running })

  pub run_leaves : LeavesAlone m setting running ran
  run_leaves = record {
    leaves = λ place first r begins here.
        (some_is first (λ one. IsAlong m setting.tables (LeavesAsIs m setting) (fresh_device one) r) (slice_get running place) begins
        (some_is r (HistoryAt m setting.tables (LeavesAsIs m setting) running place) (slice_get ran.devices place) here (left.own.devices place))).along;
  }
