-- Every event keeps what every world keeps, and so does every run.
use Rattle.std.proofs.Common.{ℕ, ◌≡◌, ◌-◌, ◌≤◌, false, List, length, Some, IfSome, slice_get, refl, subst}
use Rattle.std.specs.List.{All}
use Rattle.nm_proto.specs.declared.journal.Entry.TheVariants.{Decided, Ended}
use Rattle.nm_proto.specs.declared.message.Request.TheVariants.{OpenSession}
use Rattle.nm_proto.specs.declared.plan.ChangePlan.{ChangePlan}
use Rattle.nm_proto.specs.declared.plan.Event.{Event}
use Rattle.nm_proto.specs.Content.{Meaning, Laws}
use Rattle.nm_proto.specs.Plan.{devices_in}
use Rattle.nm_device.specs.Device.{is_manager}
use Rattle.nm_history.specs.declared.event.DeviceEvent.TheVariants.{Lost, Advanced, Restarted}
use Rattle.nm_history.specs.History.{advancing, recorded_with, restarting}
use Rattle.nm_recovery.specs.Recovery.{verdict_in}
use Rattle.nm_manager.specs.Slot.{breaks, decided, lost_memory, lost_wire, receives, renews, sends, wires_on}
use Rattle.nm_manager.specs.Manager.{start_of, with_entry, with_slot}
use Rattle.nm_world.specs.World.{Setting, WorldState, Came, manager_in, run, core_of, with_device, with_manager, world_step}
use Rattle.nm_safety.specs.Safe.{IsGiven, AreGiven}
use Rattle.nm_safety.specs.Support.{IsKept, IsSupported}
use Rattle.nm_safety.specs.Cases.{Cases, IsSlot}
use Rattle.nm_safety.proofs.Lists.{some_is}
use Rattle.nm_safety.proofs.Entries.{ready_is_open, ready_is_started}
use Rattle.nm_safety.proofs.Steps.{run_keeps}
use Rattle.nm_safety.proofs.Keeps.{broken_kept, decided_kept, forgotten_kept, received_kept, renewed_kept, sent_kept}
use Rattle.nm_safety.proofs.Managed.{crashed_moves, decision_moves, entry_moves, kept_here, planned_by, slot_moves}
use Rattle.nm_safety.proofs.Ends.{closed_moves, restarted_all, silent_moves}
use Rattle.nm_safety.proofs.Facts.{SupportedIn, asked_done, delivery, entered_done}
use Rattle.nm_safety.proofs.Deliver.{asked_supported, entered_supported}
use Rattle.nm_safety.proofs.Operators.{asked_moves, entered_moves}
use Rattle.nm_safety.proofs.Cases.{comes}

module _ {Config TheEdit Node : Type 0} (m : Meaning Config TheEdit Node) (laws : Laws m) (setting : Setting TheEdit) (edits : All m.edit_belongs setting.tables.edits) (few : length setting.plans ≤ 64)
    (strangers : (number : ℕ) → IfSome (slice_get setting.users number) (λ user. is_manager (Some user) ≡ false)) where
  module _ (w : WorldState Config Node) (s : SupportedIn m setting w) where
    abbrev Supports : Event → Came Config Node → Type 0
    Supports event c = IsSupported m setting c.after

    module _ (change : ℕ) (a : IsSlot (core_of w) change) where
      abbrev Kept : ChangePlan → Type 0
      Kept plan = IsKept change (devices_in plan.edits) w.entries s.owners w.devices a.slot

      -- with its plan, and what is kept of it
      with_kept : (T : Type 0) → ((plan : ChangePlan) → slice_get setting.plans (change - 1) ≡ Some plan → Kept plan → T) → T
      with_kept T step =
          planned_by m setting (core_of w) s change a.numbered a.slot T a.there
          (λ plan planned. step plan planned (kept_here m setting (core_of w) s change a.numbered plan a.slot planned a.there)) (slice_get setting.plans (change - 1)) refl

    supports : Cases m setting (core_of w) Supports
    supports = record {
      nothing = λ event. s;
      starts = λ change numbered plan planned may. entry_moves m setting (core_of w) s (start_of change plan) may (λ k. refl);
      decides = λ change a ready v acts may.
          with_kept change a (IsSupported m setting (with_manager (core_of w) (with_slot (with_entry (manager_in (core_of w)) (Decided change v)) change (decided a.slot v))))
          (λ plan planned k.
          decision_moves m setting (core_of w) s change a.numbered plan a.slot (decided a.slot v) v planned a.there may
          (decided_kept change (devices_in plan.edits) s.owners w.devices w.entries a.slot k v acts may (ready_is_open w.entries change ready)));
      finishes = λ change a ready kept acts may. entry_moves m setting (core_of w) s (Ended change kept) may (λ k. refl);
      sends_out = λ change a ready device what acts.
          slot_moves m setting (core_of w) s change a.numbered a.plan a.slot (sends a.plan w.entries a.slot device what).slot a.planned a.there
          (sent_kept change (devices_in a.plan.edits) s.owners w.devices w.entries a.slot (kept_here m setting (core_of w) s change a.numbered a.plan a.slot a.planned a.there)
          a.plan device what (ready_is_started w.entries change ready) (ready_is_open w.entries change ready) acts);
      renews_timer = λ change device a known ready.
          slot_moves m setting (core_of w) s change a.numbered a.plan a.slot (renews a.plan w.entries a.slot device).slot a.planned a.there
          (renewed_kept change (devices_in a.plan.edits) s.owners w.devices w.entries a.slot (kept_here m setting (core_of w) s change a.numbered a.plan a.slot a.planned a.there)
          a.plan device known (ready_is_started w.entries change ready) (ready_is_open w.entries change ready));
      hears = λ change device link number a known.
          with_kept change a (IsSupported m setting (with_manager (core_of w) (with_slot (manager_in (core_of w)) change (receives a.slot device link number).slot)))
          (λ plan planned k.
          slot_moves m setting (core_of w) s change a.numbered plan a.slot (receives a.slot device link number).slot planned a.there
          (received_kept change (devices_in plan.edits) s.owners w.devices w.entries a.slot k device link number known));
      breaks_off = λ change device a known.
          with_kept change a (IsSupported m setting (with_manager (core_of w) (with_slot (manager_in (core_of w)) change (breaks a.slot device).slot)))
          (λ plan planned k.
          slot_moves m setting (core_of w) s change a.numbered plan a.slot (breaks a.slot device).slot planned a.there
          (broken_kept change (devices_in plan.edits) s.owners w.devices w.entries a.slot k device known));
      forgets = λ change a begun going.
          slot_moves m setting (core_of w) s change a.numbered a.plan a.slot (lost_memory a.slot (devices_in a.plan.edits) (verdict_in change w.entries)) a.planned a.there
          (forgotten_kept change (devices_in a.plan.edits) s.owners w.devices w.entries a.slot
          (kept_here m setting (core_of w) s change a.numbered a.plan a.slot a.planned a.there) going);
      crashes = crashed_moves m setting (core_of w) s;
      tells = λ change device link l request out plain session is d.
          with_kept change (record { numbered = l.numbered; slot = l.slot; there = l.there }) _
          (λ plan planned k.
          asked_supported m laws setting edits few w s change device link l plan planned request out session is
          (asked_done m laws setting edits few (SupportedIn m setting) (delivery m setting (SupportedIn m setting) w s s few change device link l plan planned request out) session is d));
      opens = λ change device link l user out d.
          with_kept change (record { numbered = l.numbered; slot = l.slot; there = l.there }) _
          (λ plan planned k.
          entered_supported m laws setting edits few w s change device link l plan planned (OpenSession user) out user refl
          (entered_done m laws setting edits few (SupportedIn m setting) (delivery m setting (SupportedIn m setting) w s s few change device link l plan planned (OpenSession user) out) user refl d));
      loses_session = λ change device link l opened session is h happens.
          let after = recorded_with l.r (Lost session) h in
          subst (λ found. IsSupported m setting (with_manager (with_device (core_of w) device after) (with_slot (manager_in (core_of w)) change (wires_on (lost_wire link) l.slot device found)))) l.at_side
          (closed_moves m setting (with_device (core_of w) device after) (silent_moves m laws setting edits (core_of w) s (device - 1) l.r (Lost session) h happens l.here refl)
          change device link l.numbered l.slot l.there);
      closes = λ change device link l opened is.
          subst (λ found. IsSupported m setting (with_manager (core_of w) (with_slot (manager_in (core_of w)) change (wires_on (lost_wire link) l.slot device found)))) l.at_side
          (closed_moves m setting (core_of w) s change device link l.numbered l.slot l.there);
      restarts = λ device r here.
          restarted_all m setting (with_device (core_of w) device (recorded_with r Restarted (restarting m r.device)))
          (silent_moves m laws setting edits (core_of w) s (device - 1) r Restarted (restarting m r.device) refl here refl) device;
      passes = λ device seconds r here. silent_moves m laws setting edits (core_of w) s (device - 1) r (Advanced seconds) (advancing m r.device seconds) refl here refl;
      asks = λ number device a request plain session given opened d.
          asked_moves m laws setting edits (core_of w) s number device a session given opened request d.h d.happens d.reply d.replies;
      enters = λ number device a user own free d.
          entered_moves m laws setting edits (core_of w) s number device a user
          (some_is user (λ one. is_manager (Some one) ≡ false) (slice_get setting.users (number - 1)) own (strangers (number - 1))) d.h d.happens d.reply d.replies;
      leaves = λ number device a session given opened h happens. silent_moves m laws setting edits (core_of w) s (device - 1) a.r (Lost session) h happens a.here refl;
    }

  pub one_supported : (w : WorldState Config Node) (event : Event) → IsGiven setting event → SupportedIn m setting w → SupportedIn m setting (world_step m setting w event)
  one_supported w event given s = comes m setting (core_of w) (Supports w s) (supports w s) event given

  pub run_supported : (w : WorldState Config Node) (events : List Event) → AreGiven setting events → SupportedIn m setting w → SupportedIn m setting (run m setting w events)
  run_supported w events given s = run_keeps m setting (SupportedIn m setting) one_supported w events given s
