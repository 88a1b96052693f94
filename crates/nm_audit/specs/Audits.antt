-- What an audit finds: the first mismatch, in this order (this project's own). Numbers come first, of devices and then of
-- slots; then entries of passes, of change sets and then of operators; then entries of histories that nobody holds; then
-- phases; then verdicts.
use Rattle.std.specs.Prelude.{List, Option}
use Rattle.nm_proto.specs.declared.journal.Entry.{Entry}
use Rattle.nm_chronicle.specs.Board.{BoardState}
use Rattle.nm_cells.specs.Pass.{PassState}
use Rattle.nm_cells.specs.State.{CellView}
use Rattle.nm_audit.specs.declared.mismatch.Mismatch.{Mismatch}
use Rattle.nm_audit.specs.declared.slot.SlotRecord.{SlotRecord}
use Rattle.nm_audit.specs.First.{Finds, Then}
use Rattle.nm_audit.specs.Audited.{Audited}
use Rattle.nm_audit.specs.Numbers.{CellPlaced, CellMisplaced, SlotPlaced, SlotMisplaced}
use Rattle.nm_audit.specs.Passes.{SlotFits, SlotFails, OperatorFits, OperatorFails}
use Rattle.nm_audit.specs.Held.{CellKept, CellUnkept}
use Rattle.nm_audit.specs.Marks.{PhasesFit, PhasesFail, VerdictFits, VerdictFails}

module _ {Config Node : Type 0} (cells : List (CellView Config Node)) (slots : List SlotRecord) where
  -- numbers that aren't those of their places
  abbrev pub AuditsNumbers : Option Mismatch → Type 0
  AuditsNumbers found = Then (Finds CellPlaced CellMisplaced cells) (Finds SlotPlaced SlotMisplaced slots) found

  module _ (operators : List PassState) where
    -- entries of passes that don't stand in histories as they are to
    abbrev pub AuditsPasses : Option Mismatch → Type 0
    AuditsPasses found =
        Then (Finds (SlotFits cells slots) (SlotFails cells slots) slots) (Finds (OperatorFits cells) (OperatorFails cells) operators) found

    -- entries of histories that no pass holds
    abbrev pub AuditsHistories : Option Mismatch → Type 0
    AuditsHistories found = Finds (CellKept slots operators) (CellUnkept slots operators) cells found

    -- entries of either kind
    abbrev pub AuditsEntries : Option Mismatch → Type 0
    AuditsEntries found = Then AuditsPasses AuditsHistories found

  module _ (board : BoardState) (entries : List Entry) where
    -- phases that aren't those of the outcomes
    abbrev pub AuditsPhases : Option Mismatch → Type 0
    AuditsPhases found = Finds (PhasesFit board cells) (PhasesFail board cells) slots found

    -- verdicts that aren't those of the journal
    abbrev pub AuditsVerdicts : Option Mismatch → Type 0
    AuditsVerdicts found = Finds (VerdictFits board entries) (VerdictFails board entries) slots found

    -- what stands on the board
    abbrev pub AuditsBoard : Option Mismatch → Type 0
    AuditsBoard found = Then AuditsPhases AuditsVerdicts found

-- all of it
abbrev pub Audits : {Config Node : Type 0} → Audited Config Node → Option Mismatch → Type 0
Audits a found =
    Then (AuditsNumbers a.cells a.slots)
    (Then (AuditsEntries a.cells a.slots a.operators) (AuditsBoard a.cells a.slots a.board a.entries)) found
