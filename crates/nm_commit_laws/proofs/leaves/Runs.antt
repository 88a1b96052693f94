-- Every event keeps what every world keeps, and so does every run.
use Rattle.std.proofs.Common.{ℕ, ◌≡◌, ◌≤◌, false, List, length, Some, IfSome, slice_get, refl}
use Rattle.std.specs.List.{All}
use Rattle.nm_proto.specs.declared.plan.Event.{Event}
use Rattle.nm_proto.specs.Content.{Meaning, Laws}
use Rattle.nm_proto.specs.Plan.{devices_in}
use Rattle.nm_device.specs.Device.{is_manager}
use Rattle.nm_history.specs.declared.event.DeviceEvent.TheVariants.{Entered, Asked}
use Rattle.nm_recovery.specs.Recovery.{verdict_in}
use Rattle.nm_manager.specs.Slot.{SlotState}
use Rattle.nm_world.specs.World.{Setting, CoreState, WorldState, run, world_step}
use Rattle.nm_world.proofs.Passing.{is_round}
use Rattle.nm_safety.specs.Safe.{IsGiven, AreGiven}
use Rattle.nm_safety.specs.Support.{IsSupported}
use Rattle.nm_safety.specs.Keeping.{Both, Keeps}
use Rattle.nm_safety.proofs.Along.{history_push}
use Rattle.nm_safety.proofs.Keeping.{one_kept, run_kept, slot_there}
use Rattle.nm_safety.proofs.Facts.{SupportedIn}
use Rattle.nm_safety.proofs.Runs.{one_supported}
use Rattle.nm_commit_laws.specs.Leaves.{LeavesAsIs}
use Rattle.nm_commit_laws.specs.LeavesSupport.{AreClean, IsClean, OfClean, OfLeft}
use Rattle.nm_commit_laws.proofs.leaves.Commits.{asked_leaves, silent_leaves, stranger_leaves}
use Rattle.nm_commit_laws.proofs.leaves.Keeping.{anew_clean, broken_clean, decided_clean, forgotten_clean, lost_clean, received_clean, renewed_clean, restarted_clean, sent_clean}
use Rattle.nm_commit_laws.proofs.leaves.Others.{quiet_silent}
use Rattle.nm_commit_laws.proofs.leaves.Told.{aside_clean, asked_clean, opened_clean}

module _ {Config TheEdit Node : Type 0} (m : Meaning Config TheEdit Node) (laws : Laws m) (setting : Setting TheEdit)
    (edits : All m.edit_belongs setting.tables.edits) (few : length setting.plans ≤ 64)
    (strangers : (number : ℕ) → IfSome (slice_get setting.users number) (λ user. is_manager (Some user) ≡ false))
    (running : List Config) where
  clean_keeps : Keeps m setting (SupportedIn m setting) OfClean (OfLeft m setting running)
  clean_keeps = record {
    entered = λ x entry plain may c. c;
    decides_on = λ x v ready acts may c. decided_clean x.change (devices_in x.plan.edits) x.owners x.w.devices x.w.entries x.slot x.kept c v acts;
    sent = λ x device what ready acts c. sent_clean x.change (devices_in x.plan.edits) x.owners x.w.devices x.w.entries x.slot x.kept c x.plan device what acts;
    renewed = λ x device known ready c. renewed_clean x.change (devices_in x.plan.edits) x.owners x.w.devices x.w.entries x.slot x.kept c x.plan device;
    heard = λ x device link number known c. received_clean x.change (devices_in x.plan.edits) x.owners x.w.devices x.w.entries x.slot x.kept c device link number;
    broken = λ x device known c. broken_clean x.change (devices_in x.plan.edits) x.owners x.w.devices x.w.entries x.slot x.kept c device;
    forgotten = λ x begun going c. forgotten_clean x.w.devices x.slot c (devices_in x.plan.edits) (verdict_in x.change x.w.entries);
    anew = λ x c. anew_clean x.w.devices x.slot c x.w.entries x.change (devices_in x.plan.edits);
    closed = λ change plan entries devices slot device link c. lost_clean devices slot c device link;
    restarted = λ change plan entries devices slot device c. restarted_clean devices slot c device;
    aside = aside_clean m setting (SupportedIn m setting);
    told = λ x plain session is done later c k. asked_clean m setting (SupportedIn m setting) x c laws session is done;
    told_opened = λ x user opening done later c k. opened_clean m setting (SupportedIn m setting) x c user opening done;
    entered_beside = λ w s entry may place r here k. k;
    asked_by_link = λ x plain session is done later c k.
        history_push m setting.tables (LeavesAsIs m setting) running _ x.r (Asked session x.request) done.h done.happens
        (asked_leaves m setting laws (SupportedIn m setting) x c session is done) k;
    opened_by_link = λ x user opening done later c k.
        history_push m setting.tables (LeavesAsIs m setting) running _ x.r (Entered user) done.h done.happens
        (silent_leaves m setting x.r.device (Entered user) done.h refl) k;
    asked_by_operator = λ w s place r here session opened stranger request h happens k.
        history_push m setting.tables (LeavesAsIs m setting) running place r (Asked session request) h happens
        (stranger_leaves m setting r.device session request h stranger) k;
    opened_by_operator = λ w s place r here user stranger h happens k.
        history_push m setting.tables (LeavesAsIs m setting) running place r (Entered user) h happens (silent_leaves m setting r.device (Entered user) h refl) k;
    silent = λ w s place r here event silent h happens k.
        history_push m setting.tables (LeavesAsIs m setting) running place r event h happens (silent_leaves m setting r.device event h (quiet_silent event silent)) k;
  }

  -- a world that is supported, and in which candidate stands so
  abbrev pub IsLeaving : WorldState Config Node → Type 0
  IsLeaving w = Both setting (SupportedIn m setting) OfClean (OfLeft m setting running) w

  pub one_clean : (w : WorldState Config Node) (event : Event) → IsGiven setting event → is_round event ≡ false → IsLeaving w
      → IsLeaving (world_step m setting w event)
  one_clean w event given single k =
      one_kept m laws setting edits few strangers (SupportedIn m setting) (λ v s. s)
      (λ v one may not_round s. one_supported m laws setting edits few strangers v one may s) OfClean (OfLeft m setting running) clean_keeps
      w event given single k

  pub run_clean : (w : WorldState Config Node) (events : List Event) → AreGiven setting events → IsLeaving w
      → IsLeaving (run m setting w events)
  run_clean w events given k =
      run_kept m laws setting edits few strangers (SupportedIn m setting) (λ v s. s)
      (λ v one may not_round s. one_supported m laws setting edits few strangers v one may s) OfClean (OfLeft m setting running) clean_keeps
      w events given k

module _ {Config TheEdit Node : Type 0} (m : Meaning Config TheEdit Node) (setting : Setting TheEdit) (running : List Config)
    (w : CoreState Config Node) (s : IsSupported m setting w) (c : AreClean m setting running w) where
  pub clean_at : (place : ℕ) (slot : SlotState) → slice_get w.slots place ≡ Some slot → IsClean w.devices slot
  clean_at place slot there =
      slot_there m setting OfClean (OfLeft m setting running) w s c place slot there (IsClean w.devices slot) (λ plan planned k. k)
