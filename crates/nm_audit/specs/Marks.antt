-- The board beside the histories, the slots and the journal (this project's own): phases are those of the outcomes, and
-- verdicts are those that the journal holds.
use Rattle.std.specs.Prelude.{◌≡◌, ◌⊎◌, ℕ, ◌-◌, List, length, slice_get, Option, Some, None}
use Rattle.nm_base.specs.Token.{token_of}
use Rattle.nm_proto.specs.declared.journal.Entry.{Entry}
use Rattle.nm_proto.specs.declared.journal.Verdict.{Verdict as AVerdict}
use Rattle.nm_history.specs.Outcome.{outcome_of}
use Rattle.nm_chronicle.specs.Line.{LineState, phase_of}
use Rattle.nm_chronicle.specs.Board.{BoardState}
use Rattle.nm_chronicle.specs.Phases.{outcome_phase}
use Rattle.nm_recovery.specs.Recovery.{verdict_in}
use Rattle.nm_cells.specs.State.{CellView}
use Rattle.nm_audit.specs.declared.mismatch.Mismatch.{Mismatch}
use Rattle.nm_audit.specs.declared.mismatch.Mismatch.TheVariants.{Phase, Verdict}
use Rattle.nm_audit.specs.declared.slot.SlotRecord.{SlotRecord}
use Rattle.nm_audit.specs.Audited.{history_of, number_of}
use Rattle.nm_audit.specs.First.{FitTo, IsFirst}

-- ---- the board

abbrev pub phase_in : Option LineState → ℕ → ℕ
phase_in None device = 0
phase_in (Some line) device = phase_of line device

-- the phase of a change set at a device
abbrev pub phase_on : BoardState → ℕ → ℕ → ℕ
phase_on board change device = phase_in (slice_get board.lines (change - 1)) device

abbrev pub verdict_of_line : Option LineState → Option AVerdict
verdict_of_line None = None
verdict_of_line (Some line) = line.verdict

-- the verdict of a change set
abbrev pub verdict_on : BoardState → ℕ → Option AVerdict
verdict_on board change = verdict_of_line (slice_get board.lines (change - 1))

-- ---- phases

module _ {Config Node : Type 0} where
  -- the phase of a change set's outcome by a device's history
  abbrev pub phase_at : ℕ → CellView Config Node → ℕ
  phase_at change cell = outcome_phase (outcome_of (token_of change) (history_of cell))

  -- the phase of a change set at a device is that of its outcome
  abbrev pub PhaseFits : BoardState → ℕ → ℕ → CellView Config Node → Type 0
  PhaseFits board change place cell = phase_on board change (number_of cell) ≡ phase_at change cell

  -- it isn't, and both are told
  pub record PhaseFails (board : BoardState) (change place : ℕ) (cell : CellView Config Node) (mismatch : Mismatch) : Type 0 where
    pub unfit : phase_on board change (number_of cell) ≡ phase_at change cell → ⊥
    pub told : mismatch ≡ Phase change (number_of cell) (phase_on board change (number_of cell)) (phase_at change cell)

  module _ (board : BoardState) (cells : List (CellView Config Node)) where
    -- the phases of a change set fit at all devices
    abbrev pub PhasesFit : ℕ → SlotRecord → Type 0
    PhasesFit place slot = FitTo (PhaseFits board slot.change) cells (length cells)

    -- the first that doesn't is told
    abbrev pub PhasesFail : ℕ → SlotRecord → Mismatch → Type 0
    PhasesFail place slot mismatch = IsFirst (PhaseFits board slot.change) (PhaseFails board slot.change) cells mismatch

-- ---- verdicts

module _ (board : BoardState) (entries : List Entry) where
  -- the board and the slot have the verdict of a change set that the journal has, or all have none
  pub record VerdictFits (place : ℕ) (slot : SlotRecord) : Type 0 where
    pub on_board : verdict_on board slot.change ≡ verdict_in slot.change entries
    pub in_slot : slot.verdict ≡ verdict_in slot.change entries

  -- one has another, which is told: the board's, and where the board agrees the slot's
  pub record VerdictFails (place : ℕ) (slot : SlotRecord) (mismatch : Mismatch) : Type 0 where
    pub found : Option AVerdict
    pub told : mismatch ≡ Verdict slot.change (verdict_in slot.change entries) found
    pub differs : found ≡ verdict_in slot.change entries → ⊥
    pub whose : ((verdict_on board slot.change ≡ verdict_in slot.change entries → ⊥) × (found ≡ verdict_on board slot.change))
        ⊎ ((verdict_on board slot.change ≡ verdict_in slot.change entries) × (found ≡ slot.verdict))
