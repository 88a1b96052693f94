-- What the coordinator of a change set may ask of a device, by what it called on the board before (this project's own, over
-- RFC 6241 section 8.4): then the board can take what the device does.
use Rattle.std.specs.Prelude.{ℕ, ◌-◌, ◌==◌, ◌&&◌, Bool, true, false, List, slice_get, Option, Some, None, if◌then◌else◌}
use Rattle.nm_base.specs.Mask.{mask_contains}
use Rattle.nm_proto.specs.declared.message.Request.{Request}
use Rattle.nm_proto.specs.declared.message.Request.TheVariants.{Commit, CancelCommit}
use Rattle.nm_proto.specs.declared.plan.ChangePlan.{ChangePlan}
use Rattle.nm_chronicle.specs.Line.{count_to, is_commit, is_abort}
use Rattle.nm_chronicle.specs.Board.{devices_of}
use Rattle.nm_chronicle.specs.Shares.{SlotState}
use Rattle.nm_chronicle.specs.Phases.{named_by}

-- a token names this change set
abbrev pub is_change : ℕ → Option ℕ → Bool
is_change change None = false
is_change change (Some other) = other == change

-- a confirmed commit that gives the token of the change set
abbrev pub commits_for : ℕ → Request → Bool
commits_for change (Commit confirmed timeout persist persist_id) = confirmed && is_change change (named_by persist)
commits_for change _ = false

-- the device is the last of those of the change set that were asked for its commit
abbrev pub is_last_asked : Option ChangePlan → ℕ → ℕ → Bool
is_last_asked None asked device = false
is_last_asked (Some plan) asked device = mask_contains (devices_of plan) device && (count_to (devices_of plan) device == asked)

module _ (changes : List ChangePlan) (change device : ℕ) (slot : SlotState) where
  -- the commit of the change set comes once it was called that this device is asked for it, a commit that confirms after
  -- the verdict Commit
  abbrev pub allows_commit : Bool → Option (List ℕ) → Bool
  allows_commit false persist = is_commit slot.verdict
  allows_commit true persist =
      if is_change change (named_by persist) then is_last_asked (slice_get changes (change - 1)) slot.asked device else true

  -- a cancel comes after an Abort, and all else at any time
  abbrev pub allows : Request → Bool
  allows (Commit confirmed timeout persist persist_id) = allows_commit confirmed persist
  allows (CancelCommit persist_id) = is_abort slot.verdict
  allows _ = true
