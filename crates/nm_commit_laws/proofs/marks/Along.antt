-- What is so of a device at the beginning of a legal history is so after it, where each entry keeps that: change sets come with their
-- own edits, other commits leave running, and something is said of what has happened before each entry.
use Rattle.std.proofs.Common.{◌≡◌, ℕ, ◌<◌, ◌^◌, true, List, [], ◌∷◌, ◌++◌, Option, Some, None, refl, sym, ap, subst}
use Rattle.std.proofs.lemmas.List.{append-nil, append_assoc}
use Rattle.nm_base.specs.Token.{token_of}
use Rattle.nm_proto.specs.declared.journal.Entry.{Entry}
use Rattle.nm_proto.specs.Content.{Meaning}
use Rattle.nm_device.specs.Device.{DeviceState}
use Rattle.nm_history.specs.declared.event.DeviceEvent.{DeviceEvent}
use Rattle.nm_history.specs.declared.event.Noted.{Noted}
use Rattle.nm_history.specs.History.{Fits, Happened, IsLegal, RecordedState, after_or, device_event, noted, recorded_with, replay, replayed}
use Rattle.nm_device_laws.specs.Moment.{Happens}
use Rattle.nm_device_laws.specs.Token.{is_commit_done}
use Rattle.nm_safety.specs.Along.{Along}
use Rattle.nm_world.specs.World.{Setting}
use Rattle.nm_commit_laws.specs.Brings.{Brings, EachBrings}
use Rattle.nm_commit_laws.specs.Leaves.{EachLeaves, IsOtherCommit, LeavesRunning}
use Rattle.nm_commit_laws.specs.Waits.{then_noted}

module _ {Config TheEdit Node : Type 0} (m : Meaning Config TheEdit Node) (setting : Setting TheEdit) (entries : List Entry) (device : ℕ) where
  -- what the manager's commits do to running
  pub record CommitsRightly (s : DeviceState Config Node) (entry : Noted) (now : DeviceState Config Node) : Type 0 where
    pub brings : (change : ℕ) → change < 2 ^ 32 → is_commit_done (token_of change) entry ≡ true
        → Brings m setting entries change device s.stores.running now.stores.running
    pub leaves : (other : IsOtherCommit s entry) → LeavesRunning s now other.persist other.persist_id

  module _ (R : List Noted → Noted → Type 0) (Q : RecordedState Config Node → Type 0)
      (step : (r : RecordedState Config Node) (event : DeviceEvent) (h : Happened Config Node) → Happens m setting.tables r.device event h
      → CommitsRightly r.device (noted event h) h.after → R r.history (noted event h) → Q r → Q (recorded_with r event h)) where
    abbrev with_entry : RecordedState Config Node → DeviceState Config Node → Noted → RecordedState Config Node
    with_entry r s one = record { device = s; history = r.history ++ one ∷ [] }

    next_by : (r : RecordedState Config Node) (one : Noted) → CommitsRightly r.device one (replayed m setting.tables r.device one) → R r.history one
        → Q r → (done : Option (Happened Config Node)) → device_event m setting.tables r.device one.event ≡ done → Fits one done
        → Q (with_entry r (replayed m setting.tables r.device one) one)
    next_by r one rightly more k None e fits = absurd fits
    next_by r one rightly more k (Some h) e fits =
        let after : replayed m setting.tables r.device one ≡ h.after = ap (after_or r.device) e in
        subst (λ s. Q (with_entry r s one)) (sym after)
        (subst (λ entry. Q (with_entry r h.after entry)) (sym fits)
        (step r one.event h e (subst (λ entry. CommitsRightly r.device entry h.after) fits (subst (CommitsRightly r.device one) after rightly))
        (subst (R r.history) fits more) k))

    pub entries_keep : (r : RecordedState Config Node) (history : List Noted) → IsLegal m setting.tables r.device history
        → EachBrings m setting entries device r.device history → EachLeaves m setting r.device history → Along then_noted R r.history history
        → Q r → Q (record { device = replay m setting.tables r.device history; history = r.history ++ history })
    entries_keep r [] legal brings leaves more k =
        subst (λ history. Q (record { device = r.device; history = history })) (sym (append-nil r.history)) k
    entries_keep r (one ∷ history) legal brings leaves more k =
        let s = replayed m setting.tables r.device one in
        let rightly : CommitsRightly r.device one s = record { brings = brings.0; leaves = leaves.0 } in
        subst (λ all. Q (record { device = replay m setting.tables s history; history = all })) (append_assoc r.history (one ∷ []) history)
        (entries_keep (with_entry r s one) history legal.1 brings.1 leaves.1 more.1
        (next_by r one rightly more.0 k (device_event m setting.tables r.device one.event) refl legal.0))
