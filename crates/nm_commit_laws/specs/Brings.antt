-- What comes to a device with a change set: its own edit of what running was, with its mark, and nothing else (this project's own, over
-- RFC 6241 sections 7.2 and 8.4). What others edited in candidate never comes with it.
use Rattle.std.specs.Prelude.{◌≡◌, ℕ, suc, ◌-◌, ◌≤◌, ◌<◌, ◌^◌, List, ◌++◌, true, Option, Some, None, Ok, slice_get}
use Rattle.nm_base.specs.Mask.{mask_contains}
use Rattle.nm_base.specs.Token.{token_of}
use Rattle.nm_base.specs.declared.mask.ChangeMask.{ChangeMask}
use Rattle.nm_base.specs.declared.number.EditNo.{EditNo}
use Rattle.nm_proto.specs.declared.message.DefaultOperation.{DefaultOperation}
use Rattle.nm_proto.specs.declared.message.Marks.{Marks}
use Rattle.nm_proto.specs.declared.journal.Entry.{Entry}
use Rattle.nm_proto.specs.declared.plan.ChangePlan.{ChangePlan}
use Rattle.nm_proto.specs.declared.plan.PlannedEdit.{PlannedEdit}
use Rattle.nm_proto.specs.Content.{Meaning}
use Rattle.nm_device.specs.Device.{DeviceState, fresh_device}
use Rattle.nm_history.specs.declared.event.Noted.{Noted}
use Rattle.nm_history.specs.History.{RecordedState, replayed}
use Rattle.nm_recovery.specs.Recovery.{is_ended_in, verdict_in}
use Rattle.nm_device_laws.specs.Token.{commits_done, is_commit_done}
use Rattle.nm_manager.specs.Requests.{edit_for}
use Rattle.nm_world.specs.World.{Setting, WorldState}
use Rattle.nm_safety.specs.Along.{Along}

-- an edit that is the one which a change set plans for a device. With it the mark of the change set comes, and no mark goes but those of
-- change sets that were ended before it was decided
pub record IsOwnEdit (plans : List ChangePlan) (entries : List Entry) (change device : ℕ) (number : EditNo)
    (operation : DefaultOperation) (marks : Option Marks) : Type 0 where
  pub numbered : 1 ≤ change
  pub plan : ChangePlan
  pub plan_is : slice_get plans (change - 1) ≡ Some plan
  pub planned : PlannedEdit
  pub planned_is : edit_for plan device ≡ Some planned
  pub number_is : number ≡ planned.edit
  pub operation_is : operation ≡ planned.default_operation
  pub gone : ChangeMask
  pub marks_are : marks ≡ Some (record { add = change; remove = gone })
  pub earlier : List Entry
  pub later : List Entry
  pub journal : entries ≡ earlier ++ later
  pub undecided : verdict_in change earlier ≡ None
  pub only_ended : (n : ℕ) → 1 ≤ n → mask_contains gone.0 n ≡ true → is_ended_in n earlier ≡ true

-- a configuration becomes what the change set's own edit for the device makes of it (RFC 6241 section 7.2)
pub record Brings {Config TheEdit Node : Type 0} (m : Meaning Config TheEdit Node) (setting : Setting TheEdit) (entries : List Entry)
    (change device : ℕ) (before now : Config) : Type 0 where
  pub number : EditNo
  pub operation : DefaultOperation
  pub marks : Option Marks
  pub own : IsOwnEdit setting.plans entries change device number operation marks
  pub edit : TheEdit
  pub found : slice_get setting.tables.edits number.0 ≡ Some edit
  pub makes : m.edited before edit operation marks ≡ Ok now

module _ {Config TheEdit Node : Type 0} (m : Meaning Config TheEdit Node) (setting : Setting TheEdit) (entries : List Entry) (device : ℕ) where
  -- a commit that gives the token of a change set and is done makes running what that change set's own edit makes of it. Numbers of
  -- change sets have 32 bits
  abbrev pub BringsOwn : DeviceState Config Node → Noted → Type 0
  BringsOwn s entry =
      (change : ℕ) → change < 2 ^ 32 → is_commit_done (token_of change) entry ≡ true
      → Brings m setting entries change device s.stores.running (replayed m setting.tables s entry).stores.running

  -- along a history, which is replayed from here: each of these commits does
  abbrev pub EachBrings : DeviceState Config Node → List Noted → Type 0
  EachBrings s history = Along (replayed m setting.tables) BringsOwn s history

-- a world that began with these running configurations. Change set c and device d stand at places c - 1 and d - 1
pub record BringsAlone {Config TheEdit Node : Type 0} (m : Meaning Config TheEdit Node) (setting : Setting TheEdit) (running : List Config)
    (w : WorldState Config Node) : Type 0 where
  pub own_edits : (place : ℕ) (first : Config) (r : RecordedState Config Node)
      → slice_get running place ≡ Some first → slice_get w.devices place ≡ Some r
      → EachBrings m setting w.entries (suc place) (fresh_device first) r.history
  -- at each device a change set is brought once at most
  pub once : (place : ℕ) (plan : ChangePlan) (device : ℕ) (r : RecordedState Config Node)
      → slice_get setting.plans place ≡ Some plan → slice_get w.devices device ≡ Some r
      → commits_done (token_of (suc place)) r.history ≤ 1
