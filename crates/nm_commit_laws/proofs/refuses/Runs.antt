-- Every event keeps what every world keeps, and so does every run.
use Rattle.std.proofs.Common.{ℕ, ◌≡◌, ◌-◌, ◌≤◌, true, false, List, length, Some, IfSome, slice_get, refl}
use Rattle.std.specs.List.{All}
use Rattle.nm_proto.specs.declared.journal.Entry.{Entry}
use Rattle.nm_proto.specs.declared.plan.Event.{Event}
use Rattle.nm_proto.specs.Content.{Meaning, Laws}
use Rattle.nm_proto.specs.Plan.{devices_in}
use Rattle.nm_device.specs.Device.{is_manager}
use Rattle.nm_history.specs.declared.event.DeviceEvent.{DeviceEvent}
use Rattle.nm_history.specs.declared.event.DeviceEvent.TheVariants.{Entered, Asked}
use Rattle.nm_history.specs.History.{Happened, RecordedState, noted, recorded_with}
use Rattle.nm_recovery.specs.Recovery.{verdict_in}
use Rattle.nm_device_laws.specs.Moment.{Happens}
use Rattle.nm_device_laws.specs.Numbered.{IsNumbered}
use Rattle.nm_manager.specs.Slot.{SlotState}
use Rattle.nm_world.specs.World.{Setting, WorldState, core_of, run, world_step}
use Rattle.nm_world.proofs.Passing.{is_round}
use Rattle.nm_safety.specs.Safe.{IsGiven, AreGiven}
use Rattle.nm_safety.specs.Support.{IsDevice, IsSupported}
use Rattle.nm_safety.specs.Keeping.{Both, Delivery, Keeps}
use Rattle.nm_safety.proofs.Along.{history_push}
use Rattle.nm_safety.proofs.Entries.{ready_is_open}
use Rattle.nm_safety.proofs.Keeping.{one_kept, run_kept}
use Rattle.nm_safety.proofs.Lists.{some_is}
use Rattle.nm_commit_laws.specs.LeavesSupport.{IsClean}
use Rattle.nm_commit_laws.proofs.leaves.Others.{is_silent, quiet_silent}
use Rattle.nm_commit_laws.proofs.leaves.Runs.{IsLeaving, clean_at, one_clean}
use Rattle.nm_commit_laws.specs.Refuses.{LeavesGone}
use Rattle.nm_commit_laws.specs.RefusesSupport.{IsGuarded, OfFitted, OfGuarded}
use Rattle.nm_commit_laws.proofs.refuses.Decent.{asked_fits, stands_now}
use Rattle.nm_commit_laws.proofs.refuses.Guard.{foreign_guarded, silent_guarded}
use Rattle.nm_commit_laws.proofs.refuses.Keeping.{anew_fits, broken_fits, decided_fits, forgotten_fits, lost_fits, received_fits, renewed_fits, restarted_fits, sent_fits}
use Rattle.nm_commit_laws.proofs.refuses.Refusals.{asked_refuses, silent_refuses, stranger_refuses}
use Rattle.nm_commit_laws.proofs.refuses.Told.{aside_fits, opened_fits}

module _ {Config TheEdit Node : Type 0} (m : Meaning Config TheEdit Node) (laws : Laws m) (setting : Setting TheEdit)
    (edits : All m.edit_belongs setting.tables.edits) (few : length setting.plans ≤ 64)
    (strangers : (number : ℕ) → IfSome (slice_get setting.users number) (λ user. is_manager (Some user) ≡ false))
    (running : List Config) where
  -- what is known already: the world is supported, and candidate stands as links were told
  abbrev pub Left : WorldState Config Node → Type 0
  Left w = IsLeaving m laws setting edits few strangers running w

  left_supported : (w : WorldState Config Node) → Left w → IsSupported m setting (core_of w)
  left_supported w b = b.before

  left_next : (w : WorldState Config Node) (event : Event) → IsGiven setting event → is_round event ≡ false → Left w → Left (world_step m setting w event)
  left_next w event given single b = one_clean m laws setting edits few strangers running w event given single b

  clean_there : (w : WorldState Config Node) → Left w → (change : ℕ) (slot : SlotState) → slice_get w.slots (change - 1) ≡ Some slot
      → IsClean w.devices slot
  clean_there w b change slot there = clean_at m setting running (core_of w) b.before b.own (change - 1) slot there

  clean_of : (x : Delivery m setting Left) → IsClean x.w.devices x.slot
  clean_of x = clean_there x.w x.before x.change x.slot x.there

  numbered_at : (w : WorldState Config Node) → Left w → (place : ℕ) (r : RecordedState Config Node) → slice_get w.devices place ≡ Some r
      → IsNumbered r.device
  numbered_at w b place r here =
      let s : IsSupported m setting (core_of w) = b.before in
      (some_is r (IsDevice m (s.owners place)) (slice_get w.devices place) here (s.devices place)).numbered

  -- what waits at a device, and its history
  guarded_push : (entries : List Entry) (place : ℕ) (r : RecordedState Config Node) (event : DeviceEvent) (h : Happened Config Node)
      → Happens m setting.tables r.device event h → IsGuarded setting.plans h.after → LeavesGone m setting r.device (noted event h)
      → OfGuarded m setting running entries place r → OfGuarded m setting running entries place (recorded_with r event h)
  guarded_push entries place r event h happens guard gone k =
      (guard, history_push m setting.tables (LeavesGone m setting) running place r event h happens gone k.1)

  -- where no session asks
  silent_push : (entries : List Entry) (place : ℕ) (r : RecordedState Config Node) → IsNumbered r.device → (event : DeviceEvent)
      → is_silent event ≡ true → (h : Happened Config Node) → Happens m setting.tables r.device event h
      → OfGuarded m setting running entries place r → OfGuarded m setting running entries place (recorded_with r event h)
  silent_push entries place r numbered event silent h happens k =
      guarded_push entries place r event h happens
      (silent_guarded m setting.tables r.device numbered setting.plans k.0 event h happens silent) (silent_refuses m setting r.device event h silent) k

  fit_keeps : Keeps m setting Left OfFitted (OfGuarded m setting running)
  fit_keeps = record {
    entered = λ x entry plain may f. f;
    decides_on = λ x v ready acts may f. decided_fits x.w.devices x.slot x.plan f v;
    sent = λ x device what ready acts f.
        sent_fits x.change (devices_in x.plan.edits) x.owners x.w.devices x.w.entries x.slot x.kept (clean_there x.w x.before x.change x.slot x.there)
        x.plan f (ready_is_open x.w.entries x.change ready) device what acts;
    renewed = λ x device known ready f.
        renewed_fits x.change (devices_in x.plan.edits) x.owners x.w.devices x.w.entries x.slot x.kept (clean_there x.w x.before x.change x.slot x.there)
        x.plan f device;
    heard = λ x device link number known f.
        received_fits x.change (devices_in x.plan.edits) x.owners x.w.devices x.w.entries x.slot x.kept
        (clean_there x.w x.before x.change x.slot x.there) x.plan f device link number;
    broken = λ x device known f.
        broken_fits x.change (devices_in x.plan.edits) x.owners x.w.devices x.w.entries x.slot x.kept (clean_there x.w x.before x.change x.slot x.there)
        x.plan f device;
    forgotten = λ x begun going f. forgotten_fits x.w.devices x.slot x.plan f (devices_in x.plan.edits) (verdict_in x.change x.w.entries);
    anew = λ x f. anew_fits x.w.devices x.slot x.plan f x.w.entries x.change (devices_in x.plan.edits);
    closed = λ change plan entries devices slot device link f. lost_fits devices slot plan f device link;
    restarted = λ change plan entries devices slot device f. restarted_fits devices slot plan f device;
    aside = aside_fits m setting Left;
    told = λ x plain session is done later f k. asked_fits m laws setting few Left x f (clean_of x) k.0 session is done;
    told_opened = λ x user opening done later f k. opened_fits m setting Left x f user opening done;
    entered_beside = λ w b entry may place r here k. k;
    asked_by_link = λ x plain session is done later f k.
        guarded_push x.w.entries (x.device - 1) x.r (Asked session x.request) done.h done.happens
        (stands_now m laws setting few Left x f (clean_of x) k.0 session is done).guarded
        (asked_refuses m laws setting few Left x f (clean_of x) k.0 session is done) k;
    opened_by_link = λ x user opening done later f k.
        silent_push x.w.entries (x.device - 1) x.r x.known.numbered (Entered user) refl done.h done.happens k;
    asked_by_operator = λ w b place r here session opened stranger request h happens k.
        guarded_push w.entries place r (Asked session request) h happens
        (foreign_guarded m setting.tables r.device (numbered_at w b place r here) setting.plans k.0 session request h happens stranger)
        (stranger_refuses m setting r.device session request h stranger) k;
    opened_by_operator = λ w b place r here user stranger h happens k.
        silent_push w.entries place r (numbered_at w b place r here) (Entered user) refl h happens k;
    silent = λ w b place r here event silent h happens k.
        silent_push w.entries place r (numbered_at w b place r here) event (quiet_silent event silent) h happens k;
  }

  -- a world of which that is known, and in which what waits stands so
  abbrev pub IsRefusing : WorldState Config Node → Type 0
  IsRefusing w = Both setting Left OfFitted (OfGuarded m setting running) w

  pub one_refusing : (w : WorldState Config Node) (event : Event) → IsGiven setting event → is_round event ≡ false → IsRefusing w
      → IsRefusing (world_step m setting w event)
  one_refusing w event given single k =
      one_kept m laws setting edits few strangers Left left_supported left_next OfFitted (OfGuarded m setting running) fit_keeps w event given single k

  pub run_refusing : (w : WorldState Config Node) (events : List Event) → AreGiven setting events → IsRefusing w
      → IsRefusing (run m setting w events)
  run_refusing w events given k =
      run_kept m laws setting edits few strangers Left left_supported left_next OfFitted (OfGuarded m setting running) fit_keeps w events given k
