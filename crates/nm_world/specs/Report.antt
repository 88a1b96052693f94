-- What is reported of a world at its end (this project's own): the devices that differ from a journalled verdict, and those of which
-- it isn't known yet what becomes of a change set. Both are read from the devices' histories, which no manager sees.
use Rattle.std.specs.Prelude.{ℕ, zero, suc, ◌+◌, ◌-◌, Bool, true, false, ◌&&◌, ◌||◌, not, List, [], ◌∷◌, ◌++◌, length, Option, Some, None, is_some, slice_get}
use Rattle.nm_base.specs.Token.{token_of}
use Rattle.nm_proto.specs.declared.journal.Entry.{Entry}
use Rattle.nm_history.specs.History.{RecordedState}
use Rattle.nm_history.specs.Outcome.{outcome_of, is_pending, is_undone}
use Rattle.nm_recovery.specs.Recovery.{is_started, verdict_in}
use Rattle.nm_wire.specs.Wire.{WireState}
use Rattle.nm_manager.specs.Slot.{to_commit}
use Rattle.nm_manager.specs.Manager.{ManagerState, wire_in}
use Rattle.nm_world.specs.declared.report.Pair.{Pair}
use Rattle.nm_world.specs.declared.report.Report.{Report}
use Rattle.nm_world.specs.World.{Setting, CoreState, WorldState, core_of, manager_in, undelivered}

-- ---- settled

-- one of so many numbers, from one on, passes a test
unfoldable pub any_from : (ℕ → Bool) → ℕ → ℕ → Bool
any_from test number zero = false
any_from test number (suc count) = test number || any_from test (number + 1) count

module _ {Config Node : Type 0} where
  unfoldable pub is_undelivered : RecordedState Config Node → WireState → ℕ → Bool
  is_undelivered r links link = is_some (undelivered r links link)

  -- a link whose side at the device is open has a request that the device has yet to do
  abbrev pub has_undelivered : RecordedState Config Node → WireState → Bool
  has_undelivered r links = any_from (is_undelivered r links) 1 (length links.links)

  -- nothing more becomes of a change set at a device: its commit isn't pending, and no request is undelivered
  abbrev pub is_settled : RecordedState Config Node → WireState → ℕ → Bool
  is_settled r links change = not (is_pending (outcome_of (token_of change) r.history)) && not (has_undelivered r links)

-- ---- the report

module _ {A : Type 0} where
  -- what each of so many numbers, from one on, gives
  unfoldable pub each_from : (ℕ → List A) → ℕ → ℕ → List A
  each_from give number zero = []
  each_from give number (suc count) = give number ++ each_from give (number + 1) count

-- a change set and a device, where it is so
abbrev pub pair_if : Bool → ℕ → ℕ → List Pair
pair_if true change device = record { change = change; device = device } ∷ []
pair_if false change device = []

module _ {Config Node : Type 0} where
  -- it was decided to commit, and the device's commit was undone
  abbrev pub differs : Bool → ℕ → Option (RecordedState Config Node) → Bool
  differs committed change None = false
  differs committed change (Some r) = committed && is_undone (outcome_of (token_of change) r.history)

  unfoldable pub differs_at : List (RecordedState Config Node) → Bool → ℕ → ℕ → List Pair
  differs_at devices committed change device = pair_if (differs committed change (slice_get devices (device - 1))) change device

  unfoldable pub differing : List (RecordedState Config Node) → List Entry → ℕ → List Pair
  differing devices entries change = each_from (differs_at devices (to_commit (verdict_in change entries)) change) 1 (length devices)

  -- it was submitted, and it isn't settled at the device
  abbrev pub unsettles : ManagerState → ℕ → ℕ → Option (RecordedState Config Node) → Bool
  unsettles state change device None = false
  unsettles state change device (Some r) = is_started change state.entries && not (is_settled r (wire_in state change device) change)

  unfoldable pub unsettled_at : List (RecordedState Config Node) → ManagerState → ℕ → ℕ → List Pair
  unsettled_at devices state change device = pair_if (unsettles state change device (slice_get devices (device - 1))) change device

  unfoldable pub unsettling : List (RecordedState Config Node) → ManagerState → ℕ → List Pair
  unsettling devices state change = each_from (unsettled_at devices state change) 1 (length devices)

  -- the pairs in ascending order
  abbrev pub report_from : List (RecordedState Config Node) → ManagerState → ℕ → Report
  report_from devices state changes = record {
    differ = each_from (differing devices state.entries) 1 changes;
    unsettled = each_from (unsettling devices state) 1 changes;
  }

-- what is reported of a core
abbrev pub report_in : {Config TheEdit Node : Type 0} → Setting TheEdit → CoreState Config Node → Report
report_in setting w = report_from w.devices (manager_in w) (length setting.plans)

-- what is reported of a world
abbrev pub report_of : {Config TheEdit Node : Type 0} → Setting TheEdit → WorldState Config Node → Report
report_of setting w = report_in setting (core_of w)
