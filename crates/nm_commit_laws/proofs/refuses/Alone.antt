-- In a run what is refused to the manager isn't pending.
use Rattle.std.proofs.Common.{List, slice_get}
use Rattle.nm_proto.specs.declared.plan.Event.{Event}
use Rattle.nm_proto.specs.Content.{Meaning, Laws}
use Rattle.nm_device.specs.Device.{fresh_device}
use Rattle.nm_world.specs.World.{Setting, WorldState, run, start}
use Rattle.nm_safety.specs.Along.{IsAlong}
use Rattle.nm_safety.specs.Safe.{IsProper}
use Rattle.nm_safety.proofs.Lists.{some_is}
use Rattle.nm_safety.proofs.Start.{begin_supported}
use Rattle.nm_commit_laws.proofs.leaves.Runs.{IsLeaving}
use Rattle.nm_commit_laws.proofs.leaves.Start.{begin_clean}
use Rattle.nm_commit_laws.specs.Refuses.{LeavesGone, RefusesGone}
use Rattle.nm_commit_laws.specs.RefusesSupport.{OfGuarded}
use Rattle.nm_commit_laws.proofs.refuses.Runs.{IsRefusing, run_refusing}
use Rattle.nm_commit_laws.proofs.refuses.Start.{begin_fits}

module _ {Config TheEdit Node : Type 0} (m : Meaning Config TheEdit Node) (laws : Laws m) (setting : Setting TheEdit)
    (running : List Config) (events : List Event) (proper : IsProper {Node = Node} m setting running events) where
  abbrev ran : WorldState Config Node
  ran = run m setting (start setting running) events

  pub begin_refusing : IsRefusing m laws setting proper.edits proper.few proper.strangers running (start setting running)
  begin_refusing =
      let left : IsLeaving m laws setting proper.edits proper.few proper.strangers running (start setting running) =
      record { before = begin_supported m setting running proper.first; own = begin_clean m setting running } in
      record { before = left; own = begin_fits m setting running }

  came : IsRefusing m laws setting proper.edits proper.few proper.strangers running ran
  came =
      run_refusing m laws setting proper.edits proper.few proper.strangers running (start setting running) events proper.given begin_refusing

  pub run_refuses : RefusesGone m setting running ran
  run_refuses = record {
    refuses = λ place first r begins here.
        let at : OfGuarded m setting running ran.entries place r =
        some_is r (OfGuarded m setting running ran.entries place) (slice_get ran.devices place) here (came.own.devices place) in
        (some_is first (λ one. IsAlong m setting.tables (LeavesGone m setting) (fresh_device one) r) (slice_get running place) begins at.1).along;
  }
