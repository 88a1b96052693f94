-- What is owed of change sets that are to be aborted at each kind of step, and every run keeps it.
use Rattle.std.proofs.Common.{ℕ, ◌≡◌, ◌-◌, ◌≤◌, false, List, length, Some, IfSome, slice_get}
use Rattle.std.specs.List.{All}
use Rattle.nm_proto.specs.declared.plan.Event.{Event}
use Rattle.nm_proto.specs.Content.{Meaning, Laws}
use Rattle.nm_proto.specs.Plan.{devices_in}
use Rattle.nm_device.specs.Device.{is_manager}
use Rattle.nm_recovery.specs.Recovery.{verdict_in}
use Rattle.nm_base.specs.Token.{token_of}
use Rattle.nm_world.specs.World.{Setting, WorldState, core_of, run, world_step}
use Rattle.nm_world.proofs.Passing.{is_round}
use Rattle.nm_safety.specs.Safe.{IsGiven, AreGiven}
use Rattle.nm_safety.specs.Support.{IsSupported}
use Rattle.nm_safety.specs.Keeping.{Both, Delivery, IsComing, KeepsBy}
use Rattle.nm_safety.proofs.Entries.{ready_is_open}
use Rattle.nm_safety.proofs.Keeping.{run_kept_by}
use Rattle.nm_safety.proofs.Lists.{some_is}
use Rattle.nm_commit_laws.specs.LeavesSupport.{IsClean}
use Rattle.nm_commit_laws.proofs.leaves.Runs.{clean_at}
use Rattle.nm_commit_laws.specs.RefusesSupport.{IsFitted, IsGuarded, OfGuarded}
use Rattle.nm_commit_laws.proofs.refuses.Runs.{IsRefusing, one_refusing}
use Rattle.nm_outcome_laws.specs.AbortsSupport.{OfAborted, OfNone, is_over}
use Rattle.nm_outcome_laws.proofs.aborts.Entries.{decision_aborts, entered_aborts, not_over}
use Rattle.nm_outcome_laws.proofs.aborts.Others.{aside_aborts}
use Rattle.nm_outcome_laws.proofs.aborts.Slots.{anew_aborts, broken_aborts, forgotten_aborts, lost_aborts, received_aborts, renewed_aborts, restarted_aborts, sent_aborts}
use Rattle.nm_outcome_laws.proofs.aborts.Told.{asked_aborts, opened_aborts}

module _ {Config TheEdit Node : Type 0} (m : Meaning Config TheEdit Node) (laws : Laws m) (setting : Setting TheEdit)
    (edits : All m.edit_belongs setting.tables.edits) (few : length setting.plans ≤ 64)
    (strangers : (number : ℕ) → IfSome (slice_get setting.users number) (λ user. is_manager (Some user) ≡ false))
    (running : List Config) where
  -- what is known already: what waits stands so
  abbrev Known : WorldState Config Node → Type 0
  Known w = IsRefusing m laws setting edits few strangers running w

  known_supported : (w : WorldState Config Node) → Known w → IsSupported m setting (core_of w)
  known_supported w b = b.before.before

  known_next : (w : WorldState Config Node) (event : Event) → IsGiven setting event → is_round event ≡ false → Known w → Known (world_step m setting w event)
  known_next w event given single b = one_refusing m laws setting edits few strangers running w event given single b

  fitted : (x : Delivery m setting Known) → IsFitted x.plan x.w.devices x.slot
  fitted x =
      some_is x.slot (IsFitted x.plan x.w.devices) (slice_get x.w.slots (x.change - 1)) x.there (x.before.own.slots (x.change - 1) x.plan x.planned)

  clean : (x : Delivery m setting Known) → IsClean x.w.devices x.slot
  clean x = clean_at m setting running (core_of x.w) x.before.before.before x.before.before.own (x.change - 1) x.slot x.there

  guarded : (x : Delivery m setting Known) → IsGuarded setting.plans x.r.device
  guarded x =
      let at : OfGuarded m setting running x.w.entries (x.device - 1) x.r =
      some_is x.r (OfGuarded m setting running x.w.entries (x.device - 1)) (slice_get x.w.devices (x.device - 1)) x.here
      (x.before.own.devices (x.device - 1)) in
      at.0

  abort_keeps : KeepsBy m setting Known OfAborted OfNone (IsComing m setting Known)
  abort_keeps = record {
    entered = λ x entry plain coming a. entered_aborts m setting Known x ((known_supported x.w x.before).entries x.change) a entry coming;
    decides_on = λ x v ready acts may a. decision_aborts m setting Known x ((known_supported x.w x.before).entries x.change) a v ready acts;
    sent = λ x device what ready acts a.
        sent_aborts x.change (devices_in x.plan.edits) (is_over x.change x.w.entries) x.owners x.w.devices x.w.entries x.slot x.kept a
        (not_over x.change x.w.entries (ready_is_open x.w.entries x.change ready)) x.plan device what acts;
    renewed = λ x device known ready a.
        renewed_aborts x.change (devices_in x.plan.edits) (is_over x.change x.w.entries) x.owners x.w.devices x.w.entries x.slot x.kept a x.plan device;
    heard = λ x device link number known a.
        received_aborts x.change (devices_in x.plan.edits) (is_over x.change x.w.entries) x.owners x.w.devices x.w.entries x.slot x.kept a device link
        number;
    broken = λ x device known a.
        broken_aborts x.change (devices_in x.plan.edits) (is_over x.change x.w.entries) x.owners x.w.devices x.w.entries x.slot x.kept a device;
    forgotten = λ x begun going a.
        forgotten_aborts x.change (devices_in x.plan.edits) (is_over x.change x.w.entries) x.owners x.w.devices x.w.entries x.slot x.kept a
        (verdict_in x.change x.w.entries);
    anew = λ x a.
        anew_aborts x.change (devices_in x.plan.edits) (is_over x.change x.w.entries) x.owners x.w.devices x.w.entries x.slot x.kept a;
    closed = λ change plan entries devices slot device link a.
        lost_aborts (devices_in plan.edits) (is_over change entries) (token_of change) devices slot a device link;
    restarted = λ change plan entries devices slot device a.
        restarted_aborts (devices_in plan.edits) (is_over change entries) (token_of change) devices slot a device;
    aside = aside_aborts m setting Known;
    told = λ x plain session is done later a k. asked_aborts m setting Known x a laws few (fitted x) (clean x) (guarded x) session is done;
    told_opened = λ x user opening done later a k. opened_aborts m setting Known x a user opening done;
    entered_beside = λ w b entry may place r here k. k;
    asked_by_link = λ x plain session is done later a k. k;
    opened_by_link = λ x user opening done later a k. k;
    asked_by_operator = λ w b place r here session opened stranger request h happens k. k;
    opened_by_operator = λ w b place r here user stranger h happens k. k;
    silent = λ w b place r here event silent h happens k. k;
  }

  -- a world of which that is known, and in which what is aborted stands so
  abbrev pub IsAborting : WorldState Config Node → Type 0
  IsAborting w = Both setting Known OfAborted OfNone w

  pub run_aborting : (w : WorldState Config Node) (events : List Event) → AreGiven setting events → IsAborting w
      → IsAborting (run m setting w events)
  run_aborting w events given k =
      run_kept_by m laws setting edits few strangers Known known_supported known_next OfAborted OfNone (IsComing m setting Known) (λ x entry is. is)
      abort_keeps w events given k
