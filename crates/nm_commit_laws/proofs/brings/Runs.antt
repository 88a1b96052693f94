-- Every event keeps what every world keeps, and so does every run.
use Rattle.std.proofs.Common.{ℕ, ◌≡◌, suc, ◌-◌, ◌≤◌, false, List, length, Some, IfSome, slice_get, refl}
use Rattle.std.specs.List.{All}
use Rattle.nm_base.specs.Token.{is_reserved, token_of}
use Rattle.nm_proto.specs.declared.plan.Event.{Event}
use Rattle.nm_proto.specs.Content.{Meaning, Laws}
use Rattle.nm_proto.specs.Plan.{devices_in}
use Rattle.nm_sessions.specs.Sessions.{user_of}
use Rattle.nm_device.specs.Device.{is_manager}
use Rattle.nm_history.specs.declared.event.DeviceEvent.TheVariants.{Entered, Asked}
use Rattle.nm_device_laws.specs.Token.{names_token}
use Rattle.nm_world.specs.World.{Setting, WorldState, run}
use Rattle.nm_safety.specs.Safe.{AreGiven}
use Rattle.nm_safety.specs.Keeping.{Both, Keeps}
use Rattle.nm_safety.proofs.Along.{history_push}
use Rattle.nm_safety.proofs.Entries.{ready_is_open}
use Rattle.nm_safety.proofs.Facts.{SupportedIn, entered_others, kept_out, silent_others}
use Rattle.nm_safety.proofs.Keeping.{run_kept}
use Rattle.nm_safety.proofs.Runs.{one_supported}
use Rattle.nm_commit_laws.specs.Brings.{BringsOwn}
use Rattle.nm_commit_laws.specs.BringsSupport.{OfBrought, OfHistory}
use Rattle.nm_commit_laws.proofs.brings.Commits.{asked_brings}
use Rattle.nm_commit_laws.proofs.brings.Histories.{history_later, nothing_brought}
use Rattle.nm_commit_laws.proofs.brings.Keeping.{anew_brought, broken_brought, decided_brought, entered_brought, forgotten_brought, lost_brought, received_brought, renewed_brought, restarted_brought, sent_brought}
use Rattle.nm_commit_laws.proofs.brings.Told.{aside_brought, asked_brought, opened_brought}

module _ {Config TheEdit Node : Type 0} (m : Meaning Config TheEdit Node) (laws : Laws m) (setting : Setting TheEdit)
    (edits : All m.edit_belongs setting.tables.edits) (few : length setting.plans ≤ 64)
    (strangers : (number : ℕ) → IfSome (slice_get setting.users number) (λ user. is_manager (Some user) ≡ false))
    (running : List Config) where
  brings_keeps : Keeps m setting (SupportedIn m setting) (OfBrought m setting) (OfHistory m setting running)
  brings_keeps = record {
    entered = λ x entry plain may b. entered_brought m setting x.change x.w.devices x.w.entries x.slot b entry may plain;
    decides_on = λ x v ready acts may b. decided_brought m setting x.change x.w.devices x.w.entries x.slot b v may;
    sent = λ x device what ready acts b.
        sent_brought m setting x.change (devices_in x.plan.edits) x.owners x.w.devices x.w.entries x.slot x.kept b x.numbered x.plan x.planned
        (ready_is_open x.w.entries x.change ready) device what acts;
    renewed = λ x device known ready b.
        renewed_brought m setting x.change (devices_in x.plan.edits) x.owners x.w.devices x.w.entries x.slot x.kept b x.numbered x.plan x.planned
        (ready_is_open x.w.entries x.change ready) device known;
    heard = λ x device link number known b.
        received_brought m setting x.change (devices_in x.plan.edits) x.owners x.w.devices x.w.entries x.slot x.kept b
        (x.before.entries x.change) device link number;
    broken = λ x device known b.
        broken_brought m setting x.change (devices_in x.plan.edits) x.owners x.w.devices x.w.entries x.slot x.kept b device;
    forgotten = λ x begun going b.
        forgotten_brought m setting x.change (devices_in x.plan.edits) x.owners x.w.devices x.w.entries x.slot x.kept b;
    anew = λ x b.
        anew_brought m setting x.change (devices_in x.plan.edits) x.owners x.w.devices x.w.entries x.slot x.kept b (x.before.entries x.change);
    closed = λ change plan entries devices slot device link b. lost_brought m setting change devices entries slot b device link;
    restarted = λ change plan entries devices slot device b. restarted_brought m setting change devices entries slot b device;
    aside = aside_brought m setting (SupportedIn m setting);
    told = λ x plain session is done later b k.
        asked_brought m setting (SupportedIn m setting) x b session is done laws (x.before.entries x.change);
    told_opened = λ x user opening done later b k.
        opened_brought m setting (SupportedIn m setting) x b user opening done laws (x.before.entries x.change);
    entered_beside = λ w s entry may place r here k. history_later m setting w.entries entry running place r k;
    asked_by_link = λ x plain session is done later b k.
        history_push m setting.tables (BringsOwn m setting x.w.entries (suc (x.device - 1))) running (x.device - 1) x.r (Asked session x.request) done.h
        done.happens (asked_brings m setting (SupportedIn m setting) x b laws session is done) k;
    opened_by_link = λ x user opening done later b k.
        nothing_brought m setting x.r (Entered user) done.h done.happens running x.w.entries (x.device - 1)
        (λ change. (entered_others (x.owners (x.device - 1)) x.r user change).token) k;
    asked_by_operator = λ w s place r here session opened stranger request h happens k.
        nothing_brought m setting r (Asked session request) h happens running w.entries place
        (λ change.
        kept_out (names_token (token_of change) request) (is_reserved (token_of change)) (is_manager (user_of r.device.sessions session)) refl stranger)
        k;
    opened_by_operator = λ w s place r here user stranger h happens k.
        nothing_brought m setting r (Entered user) h happens running w.entries place
        (λ change. (entered_others (s.owners place) r user change).token) k;
    silent = λ w s place r here event silent h happens k.
        nothing_brought m setting r event h happens running w.entries place (λ change. (silent_others (s.owners place) r event silent change).token) k;
  }

  -- a world that is supported, and brings change sets by their own edits
  abbrev pub IsBringing : WorldState Config Node → Type 0
  IsBringing w = Both setting (SupportedIn m setting) (OfBrought m setting) (OfHistory m setting running) w

  pub run_brought : (w : WorldState Config Node) (events : List Event) → AreGiven setting events → IsBringing w
      → IsBringing (run m setting w events)
  run_brought w events given k =
      run_kept m laws setting edits few strangers (SupportedIn m setting) (λ v s. s)
      (λ v one may not_round s. one_supported m laws setting edits few strangers v one may s) (OfBrought m setting) (OfHistory m setting running)
      brings_keeps w events given k
