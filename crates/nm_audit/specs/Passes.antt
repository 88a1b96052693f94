-- The entries of passes beside the histories that they were found in (this project's own). The audit keeps a place for each
-- device as it goes along; what that comes to is said over pairs of entries, in what passes and histories agree on.
use Rattle.std.specs.Prelude.{◌≡◌, ◌≤◌, ◌<◌, ℕ, ◌-◌, ◌&&◌, nat_le, nat_lt, Bool, List, fold, length, replicate, slice_index_or, slice_set, take, Option, Some, None, if◌then◌else◌}
use Rattle.nm_cells.specs.declared.pass.PassEntry.{PassEntry}
use Rattle.nm_cells.specs.Pass.{PassState}
use Rattle.nm_cells.specs.State.{CellView}
use Rattle.nm_audit.specs.declared.mismatch.Mismatch.{Mismatch}
use Rattle.nm_audit.specs.declared.mismatch.Mismatch.TheVariants.{Entry}
use Rattle.nm_audit.specs.declared.slot.SlotRecord.{SlotRecord}
use Rattle.nm_audit.specs.Audited.{noted_at}
use Rattle.nm_audit.specs.First.{FitTo, IsFirst}

-- ---- a place for each device

-- none at any device, of which there are 32 at most: 0 is no place
abbrev pub no_places : List ℕ
no_places = replicate 32 0

-- the place at a device
abbrev pub place_on : List ℕ → ℕ → ℕ
place_on places device = slice_index_or places (device - 1) 0

-- the last place at each device, with one entry more
abbrev pub passed : List ℕ → PassEntry → List ℕ
passed places entry = slice_set places (entry.device - 1) entry.position

-- the place of the last entry of each device
abbrev pub lasts : List PassEntry → List ℕ
lasts entries = fold passed no_places entries

-- the highest place at each device, with one entry more
abbrev pub raised_by : List ℕ → PassEntry → List ℕ
raised_by places entry = if nat_lt (place_on places entry.device) entry.position then passed places entry else places

-- with a pass more
abbrev pub raised : List ℕ → List PassEntry → List ℕ
raised places entries = fold raised_by places entries

-- with a slot's pass more
abbrev pub raised_by_slot : List ℕ → SlotRecord → List ℕ
raised_by_slot places slot = raised places slot.pass.entries

-- the highest place at each device that the passes of these slots have
abbrev pub heights : List SlotRecord → List ℕ
heights slots = fold raised_by_slot no_places slots

-- ---- one entry

-- a number is that of a device that there may be
pub record IsDevice (device : ℕ) : Type 0 where
  pub low : 1 ≤ device
  pub high : device ≤ 32

-- another place isn't lower than this one
abbrev pub is_behind : ℕ → ℕ → Bool
is_behind position other = nat_le 1 other && nat_le position other

-- a place that is to come before this one and isn't lower: that of the last entry of the pass at this device, and else the
-- highest of a lower change set's pass there
abbrev pub earlier : ℕ → ℕ → ℕ → Option ℕ
earlier position last highest =
    if is_behind position last then Some last else if is_behind position highest then Some highest else None

module _ {Config Node : Type 0} (cells : List (CellView Config Node)) (highest last : ℕ) (entry : PassEntry) where
  -- an entry of a pass stands in the history of its device at its place, behind these two places
  pub record Agrees : Type 0 where
    pub device_is : IsDevice entry.device
    pub stands : noted_at cells entry.device entry.position ≡ Some entry.noted
    pub ascends : last < entry.position
    pub in_order : highest < entry.position

  -- what is told of one that doesn't
  abbrev pub entry_told : Mismatch
  entry_told =
      Entry entry.device entry.position (Some entry.noted) (noted_at cells entry.device entry.position) (earlier entry.position last highest)

  -- it doesn't, and that is told
  pub record Disagrees (mismatch : Mismatch) : Type 0 where
    pub unfit : Agrees → ⊥
    pub told : mismatch ≡ entry_told

-- ---- passes

module _ {Config Node : Type 0} (cells : List (CellView Config Node)) where
  module _ (highest : List ℕ) (entries : List PassEntry) where
    -- an entry of a pass agrees, behind those of the pass before it and these highest places
    abbrev pub EntryFits : ℕ → PassEntry → Type 0
    EntryFits place entry = Agrees cells (place_on highest entry.device) (place_on (lasts (take place entries)) entry.device) entry

    abbrev pub EntryFails : ℕ → PassEntry → Mismatch → Type 0
    EntryFails place entry mismatch =
        Disagrees cells (place_on highest entry.device) (place_on (lasts (take place entries)) entry.device) entry mismatch

    -- all entries of a pass agree
    abbrev pub PassFits : Type 0
    PassFits = FitTo EntryFits entries (length entries)

    -- the first that doesn't is told
    abbrev pub PassFails : Mismatch → Type 0
    PassFails mismatch = IsFirst EntryFits EntryFails entries mismatch

  -- the pass of a change set agrees, behind those of lower ones
  abbrev pub SlotFits : List SlotRecord → ℕ → SlotRecord → Type 0
  SlotFits slots place slot = PassFits (heights (take place slots)) slot.pass.entries

  abbrev pub SlotFails : List SlotRecord → ℕ → SlotRecord → Mismatch → Type 0
  SlotFails slots place slot mismatch = PassFails (heights (take place slots)) slot.pass.entries mismatch

  -- the pass of an operator agrees
  abbrev pub OperatorFits : ℕ → PassState → Type 0
  OperatorFits place pass = PassFits no_places pass.entries

  abbrev pub OperatorFails : ℕ → PassState → Mismatch → Type 0
  OperatorFails place pass mismatch = PassFails no_places pass.entries mismatch
