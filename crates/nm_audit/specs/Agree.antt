-- What passes, histories, the board, slots and the journal agree on where an audit finds nothing (this project's own). It is
-- said of pairs of entries, and of each entry of each history; the audit keeps places and tables.
use Rattle.std.specs.Prelude.{◌≡◌, ◌<◌, ℕ, ◌+◌, true, false, List, slice_get, Some}
use Rattle.nm_history.specs.declared.event.Noted.{Noted}
use Rattle.nm_cells.specs.declared.pass.PassEntry.{PassEntry}
use Rattle.nm_cells.specs.Pass.{PassState}
use Rattle.nm_cells.specs.State.{CellView}
use Rattle.nm_audit.specs.declared.slot.SlotRecord.{SlotRecord}
use Rattle.nm_audit.specs.Audited.{Audited, history_of, noted_at, number_of}
use Rattle.nm_audit.specs.Held.{is_advance, is_kept}
use Rattle.nm_audit.specs.Marks.{VerdictFits, phase_at, phase_on}
use Rattle.nm_audit.specs.Passes.{IsDevice}

-- ---- passes

module _ {T : Type 0} (P : T → Type 0) where
  -- each of a list is so
  abbrev pub Each : List T → Type 0
  Each xs = (place : ℕ) (it : T) → slice_get xs place ≡ Some it → P it

module _ (P : List PassEntry → Type 0) where
  abbrev pub OfSlot : SlotRecord → Type 0
  OfSlot slot = P slot.pass.entries

  abbrev pub OfPass : PassState → Type 0
  OfPass pass = P pass.entries

  -- the entries of each pass are so: those of the change sets, and those of the operators
  pub record EachPass (slots : List SlotRecord) (operators : List PassState) : Type 0 where
    pub of_slots : Each OfSlot slots
    pub of_operators : Each OfPass operators

module _ {Config Node : Type 0} (cells : List (CellView Config Node)) where
  -- an entry stands in the history of its device at its place
  pub record Stands (entry : PassEntry) : Type 0 where
    pub device_is : IsDevice entry.device
    pub there : noted_at cells entry.device entry.position ≡ Some entry.noted

  abbrev pub AllStand : List PassEntry → Type 0
  AllStand entries = Each Stands entries

-- where two entries are of one device, the first comes first there
abbrev pub ComesFirst : PassEntry → PassEntry → Type 0
ComesFirst one other = one.device ≡ other.device → one.position < other.position

-- the places of a pass ascend strictly at each device
abbrev pub Ascends : List PassEntry → Type 0
Ascends entries = (i j : ℕ) (one other : PassEntry) → i < j → slice_get entries i ≡ Some one → slice_get entries j ≡ Some other → ComesFirst one other

-- all entries of a pass come before those of another
abbrev pub Precedes : List PassEntry → List PassEntry → Type 0
Precedes ones others = (i j : ℕ) (one other : PassEntry) → slice_get ones i ≡ Some one → slice_get others j ≡ Some other → ComesFirst one other

-- ---- all of it

pub record Agree {Config Node : Type 0} (a : Audited Config Node) : Type 0 where
  -- devices and slots have the numbers of their places, counted from 1
  pub cells_placed : (place : ℕ) (cell : CellView Config Node) → slice_get a.cells place ≡ Some cell → number_of cell ≡ place + 1
  pub slots_placed : (place : ℕ) (slot : SlotRecord) → slice_get a.slots place ≡ Some slot → slot.change ≡ place + 1
  -- each entry of each pass stands in the history of its device at its place, and the places of a pass ascend there
  pub stand : EachPass (AllStand a.cells) a.slots a.operators
  pub ascend : EachPass Ascends a.slots a.operators
  -- at each device the entries of a lower change set come before those of a higher one
  pub in_order : (i j : ℕ) (lower higher : SlotRecord) → i < j → slice_get a.slots i ≡ Some lower → slice_get a.slots j ≡ Some higher
      → Precedes lower.pass.entries higher.pass.entries
  -- each entry of a history but an advance stands in a pass, a request on a session in one that opened it there
  pub held : (n place : ℕ) (cell : CellView Config Node) (entry : Noted) → slice_get a.cells n ≡ Some cell → slice_get (history_of cell) place ≡ Some entry
      → is_advance entry.event ≡ false → is_kept a.slots a.operators (number_of cell) (place + 1) ≡ true
  -- the phase of each change set at each device is that of its outcome
  pub phases : (n place : ℕ) (slot : SlotRecord) (cell : CellView Config Node) → slice_get a.slots n ≡ Some slot → slice_get a.cells place ≡ Some cell
      → phase_on a.board slot.change (number_of cell) ≡ phase_at slot.change cell
  -- the verdict of each change set is one in the journal, on the board and in its slot
  pub verdicts : (n : ℕ) (slot : SlotRecord) → slice_get a.slots n ≡ Some slot → VerdictFits a.board a.entries n slot
