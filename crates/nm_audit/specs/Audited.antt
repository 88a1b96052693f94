-- What is audited of a run once its threads are joined, and how it is looked up (this project's own).
use Rattle.std.specs.Prelude.{ℕ, ◌-◌, ◌==◌, List, slice_get, Option, Some, None, if◌then◌else◌}
use Rattle.nm_proto.specs.declared.journal.Entry.{Entry}
use Rattle.nm_history.specs.declared.event.Noted.{Noted}
use Rattle.nm_chronicle.specs.Board.{BoardState}
use Rattle.nm_cells.specs.Pass.{PassState}
use Rattle.nm_cells.specs.State.{CellView}
use Rattle.nm_audit.specs.declared.slot.SlotRecord.{SlotRecord}

-- the devices with their histories, what is left of each change set's slot, the operators' passes, the board, and the
-- journal's entries
pub record Audited (Config Node : Type 0) : Type 0 where
  pub cells : List (CellView Config Node)
  pub slots : List SlotRecord
  pub operators : List PassState
  pub board : BoardState
  pub entries : List Entry

-- the change set of a slot
abbrev pub change_of : SlotRecord → ℕ
change_of slot = slot.change

-- ---- histories

module _ {Config Node : Type 0} where
  -- the number of a device, and what has happened there
  abbrev pub number_of : CellView Config Node → ℕ
  number_of cell = cell.kept.number

  abbrev pub history_of : CellView Config Node → List Noted
  history_of cell = cell.kept.recorded.history

  -- the entry at a place of a history, from 1, where there are both
  abbrev pub noted_in : Option (CellView Config Node) → ℕ → Option Noted
  noted_in None place = None
  noted_in (Some cell) place = slice_get (history_of cell) (place - 1)

  -- the same of a device by its number. No entry stands at 0
  abbrev pub noted_at : List (CellView Config Node) → ℕ → ℕ → Option Noted
  noted_at cells device place = if place == 0 then None else noted_in (slice_get cells (device - 1)) place

-- what is audited, from its parts
module _ {Config Node : Type 0} where
  abbrev pub audited : List SlotRecord → List PassState → List (CellView Config Node) → BoardState → List Entry → Audited Config Node
  audited slots operators cells board entries =
      record { cells = cells; slots = slots; operators = operators; board = board; entries = entries }
