-- What the journal records at the end of a change set (this project's own): who kept it.
use Rattle.std.specs.Prelude.{◌≡◌, ◌≢◌, ℕ, suc, true, Some, slice_get}
use Rattle.nm_base.specs.declared.mask.DeviceMask.{DeviceMask}
use Rattle.nm_base.specs.Mask.{mask_contains}
use Rattle.nm_base.specs.Token.{token_of}
use Rattle.nm_proto.specs.declared.journal.Verdict.TheVariants.{Commit}
use Rattle.nm_proto.specs.declared.plan.ChangePlan.{ChangePlan}
use Rattle.nm_proto.specs.Plan.{devices_in}
use Rattle.nm_history.specs.declared.outcome.Outcome.TheVariants.{Pending}
use Rattle.nm_history.specs.Outcome.{outcome_of}
use Rattle.nm_history.specs.History.{RecordedState}
use Rattle.nm_journal.specs.Entries.{is_within}
use Rattle.nm_recovery.specs.Recovery.{kept_in, verdict_in}
use Rattle.nm_world.specs.World.{Setting, WorldState}
use Rattle.nm_safety.specs.Pair.{is_confirmed}
use Rattle.nm_safety.specs.Safe.{is_abort}

module _ {Config TheEdit Node : Type 0} (setting : Setting TheEdit) (w : WorldState Config Node) where
  -- the journal records these as who kept the change set at a place
  pub record IsEnded (place : ℕ) (plan : ChangePlan) (kept : DeviceMask) : Type 0 where
    pub planned : slice_get setting.plans place ≡ Some plan
    pub recorded : kept_in (suc place) w.entries ≡ Some kept

  -- what an end records of an aborted change set
  pub record RecordsAborts : Type 0 where
    -- they are devices of it
    pub members : (place : ℕ) (plan : ChangePlan) (kept : DeviceMask) → IsEnded place plan kept → is_within kept.0 (devices_in plan.edits) ≡ true
    -- where it was to be aborted there are none
    pub none : (place : ℕ) (plan : ChangePlan) (kept : DeviceMask) → IsEnded place plan kept
        → is_abort (verdict_in (suc place) w.entries) ≡ true → kept.0 ≡ 0
    -- and they are just those where it is confirmed
    pub aborted : (place : ℕ) (plan : ChangePlan) (kept : DeviceMask) → IsEnded place plan kept
        → is_abort (verdict_in (suc place) w.entries) ≡ true
        → (device : ℕ) (r : RecordedState Config Node) → slice_get w.devices device ≡ Some r
        → mask_contains kept.0 (suc device) ≡ is_confirmed (outcome_of (token_of (suc place)) r.history)

  -- of a change set that was to be committed and is ended (RFC 6241 section 8.4)
  pub record RecordsCommits : Type 0 where
    -- it is pending at no device any more
    pub over : (place : ℕ) (plan : ChangePlan) (kept : DeviceMask) → IsEnded place plan kept
        → verdict_in (suc place) w.entries ≡ Some Commit
        → (device : ℕ) (r : RecordedState Config Node) → slice_get w.devices device ≡ Some r
        → outcome_of (token_of (suc place)) r.history ≢ Pending
    -- and those that are recorded to have kept it are just those where it is confirmed
    pub kept : (place : ℕ) (plan : ChangePlan) (kept : DeviceMask) → IsEnded place plan kept
        → verdict_in (suc place) w.entries ≡ Some Commit
        → (device : ℕ) (r : RecordedState Config Node) → slice_get w.devices device ≡ Some r
        → mask_contains kept.0 (suc device) ≡ is_confirmed (outcome_of (token_of (suc place)) r.history)

  -- the end of every change set is as it is recorded (RFC 6241 section 8.4)
  pub record EndsAsRecorded : Type 0 where
    -- nothing of it is pending at any device any more
    pub over : (place : ℕ) (plan : ChangePlan) (kept : DeviceMask) → IsEnded place plan kept
        → (device : ℕ) (r : RecordedState Config Node) → slice_get w.devices device ≡ Some r
        → outcome_of (token_of (suc place)) r.history ≢ Pending
    -- and those that are recorded to have kept it are just those where it is confirmed
    pub kept : (place : ℕ) (plan : ChangePlan) (kept : DeviceMask) → IsEnded place plan kept
        → (device : ℕ) (r : RecordedState Config Node) → slice_get w.devices device ≡ Some r
        → mask_contains kept.0 (suc device) ≡ is_confirmed (outcome_of (token_of (suc place)) r.history)
