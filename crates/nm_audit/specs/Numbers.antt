-- Devices and slots in the order of their numbers (this project's own).
use Rattle.std.specs.Prelude.{◌≡◌, ℕ, ◌+◌}
use Rattle.nm_cells.specs.State.{CellView}
use Rattle.nm_audit.specs.declared.mismatch.Mismatch.{Mismatch}
use Rattle.nm_audit.specs.declared.mismatch.Mismatch.TheVariants.{Place}
use Rattle.nm_audit.specs.declared.slot.SlotRecord.{SlotRecord}
use Rattle.nm_audit.specs.Audited.{change_of, number_of}

-- a number is that of its place, counted from 1
abbrev pub IsPlaced : ℕ → ℕ → Type 0
IsPlaced place number = number ≡ place + 1

-- it isn't, and both are told
pub record IsMisplaced (place number : ℕ) (mismatch : Mismatch) : Type 0 where
  pub unfit : number ≡ place + 1 → ⊥
  pub told : mismatch ≡ Place (place + 1) number

module _ {Config Node : Type 0} where
  -- a device has the number of its place
  abbrev pub CellPlaced : ℕ → CellView Config Node → Type 0
  CellPlaced place cell = IsPlaced place (number_of cell)

  abbrev pub CellMisplaced : ℕ → CellView Config Node → Mismatch → Type 0
  CellMisplaced place cell mismatch = IsMisplaced place (number_of cell) mismatch

-- a slot is of the change set of its place
abbrev pub SlotPlaced : ℕ → SlotRecord → Type 0
SlotPlaced place slot = IsPlaced place (change_of slot)

abbrev pub SlotMisplaced : ℕ → SlotRecord → Mismatch → Type 0
SlotMisplaced place slot mismatch = IsMisplaced place (change_of slot) mismatch
