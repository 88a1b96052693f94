-- What the report of a world tells of its change sets. Once nothing more becomes of a change set at its devices, all of them have it where
-- a commit is in the journal, and none has it where none is, but for exactly those devices that are reported to differ: there its
-- confirmed commit was pending, and a timer or a restart undid it, as RFC 6241 section 8.4 demands of a device that hears no
-- confirming commit (this project's own, over that section).
use Rattle.std.specs.Prelude.{◌≡◌, ◌⊎◌, ◌↔◌, ℕ, suc, ◌≤◌, Bool, true, false, Contains, Option, Some, length, slice_get}
use Rattle.nm_base.specs.Mask.{mask_contains}
use Rattle.nm_base.specs.Token.{token_of}
use Rattle.nm_proto.specs.declared.journal.Verdict.{Verdict}
use Rattle.nm_proto.specs.declared.journal.Verdict.TheVariants.{Commit}
use Rattle.nm_proto.specs.declared.plan.ChangePlan.{ChangePlan}
use Rattle.nm_proto.specs.Plan.{devices_in}
use Rattle.nm_history.specs.declared.outcome.Outcome.{Outcome}
use Rattle.nm_history.specs.declared.outcome.Outcome.TheVariants.{Never, Pending, Confirmed, Undone}
use Rattle.nm_history.specs.declared.outcome.Undoing.{Undoing}
use Rattle.nm_history.specs.Outcome.{outcome_of, is_pending, is_undone}
use Rattle.nm_history.specs.History.{RecordedState}
use Rattle.nm_recovery.specs.Recovery.{is_started, verdict_in}
use Rattle.nm_manager.specs.Manager.{wire_in}
use Rattle.nm_world.specs.declared.report.Pair.{Pair}
use Rattle.nm_world.specs.declared.report.Report.{Report}
use Rattle.nm_world.specs.Report.{has_undelivered, report_of}
use Rattle.nm_world.specs.World.{Setting, WorldState, core_of, manager_in}
use Rattle.nm_safety.specs.Safe.{is_unasked}

-- the device has the change set, for good or until its timer ends
abbrev pub is_there : Outcome → Bool
is_there Never = false
is_there Pending = true
is_there Confirmed = true
is_there (Undone by) = false

-- a change set and a device, by their numbers
abbrev pub pair_of : ℕ → ℕ → Pair
pair_of change device = record { change = change; device = device }

-- what is reported of a change set at a device, against what has become of it there: what the journal says of it, whether it was submitted,
-- whether the device is one of its own and has yet to do a request on one of its links, and its outcome there
pub record IsTold (pair : Pair) (decided : Option Verdict) (is_submitted is_device awaits : Bool) (outcome : Outcome) (report : Report) : Type 0 where
  -- it differs exactly where a commit is in the journal and was undone at the device
  pub differs : Contains report.differ pair ↔ ((decided ≡ Some Commit) × (is_undone outcome ≡ true))
  -- and that was by a timer or a restart
  pub unasked : Contains report.differ pair → (by : Undoing) × (outcome ≡ Undone by) × (is_unasked by ≡ true)
  -- it is unsettled exactly where it was submitted, and its commit is pending or a request is yet to be done
  pub unsettled : Contains report.unsettled pair ↔ ((is_submitted ≡ true) × ((is_pending outcome ≡ true) ⊎ (awaits ≡ true)))
  -- where a commit is in the journal, each device of the change set that is neither has it for good
  pub all : decided ≡ Some Commit → is_device ≡ true → is_submitted ≡ true → (Contains report.unsettled pair → ⊥) → (Contains report.differ pair → ⊥)
      → outcome ≡ Confirmed
  -- and where none is, no settled device has it, for good or until a timer ends
  pub none : (decided ≡ Some Commit → ⊥) → is_submitted ≡ true → (Contains report.unsettled pair → ⊥) → is_there outcome ≡ false

-- a pair names a change set and a device that are there
pub record IsNamed (changes devices : ℕ) (pair : Pair) : Type 0 where
  pub one_change : 1 ≤ pair.change
  pub last_change : pair.change ≤ changes
  pub one_device : 1 ≤ pair.device
  pub last_device : pair.device ≤ devices

-- so of each change set at each device, and nothing is reported of others: change set c stands at place c - 1, and so does device d
pub record TellsAll {Config TheEdit Node : Type 0} (setting : Setting TheEdit) (w : WorldState Config Node) : Type 0 where
  pub told : (place : ℕ) (plan : ChangePlan) (device : ℕ) (r : RecordedState Config Node) → slice_get setting.plans place ≡ Some plan
      → slice_get w.devices device ≡ Some r
      → IsTold (pair_of (suc place) (suc device)) (verdict_in (suc place) w.entries) (is_started (suc place) w.entries)
      (mask_contains (devices_in plan.edits) (suc device))
      (has_undelivered r (wire_in (manager_in (core_of w)) (suc place) (suc device))) (outcome_of (token_of (suc place)) r.history) (report_of setting w)
  pub only : (pair : Pair) → Contains (report_of setting w).differ pair ⊎ Contains (report_of setting w).unsettled pair
      → IsNamed (length setting.plans) (length w.devices) pair
