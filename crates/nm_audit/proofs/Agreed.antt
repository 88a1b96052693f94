-- Where an audit finds nothing, all agree.
use Rattle.std.proofs.Common.{◌≡◌, ℕ, ◌+◌, ◌||◌, Bool, true, false, List, length, take, slice_get, slice_index_or, Some, None, sym, ◌∙◌}
use Rattle.std.proofs.lemmas.Option.{slice_get_within}
use Rattle.nm_history.specs.declared.event.Noted.{Noted}
use Rattle.nm_cells.specs.declared.pass.PassEntry.{PassEntry}
use Rattle.nm_cells.specs.Pass.{PassState}
use Rattle.nm_cells.specs.State.{CellView}
use Rattle.nm_audit.specs.declared.slot.SlotRecord.{SlotRecord}
use Rattle.nm_audit.specs.Audited.{Audited, history_of, number_of}
use Rattle.nm_audit.specs.Numbers.{CellPlaced, SlotPlaced}
use Rattle.nm_audit.specs.Passes.{no_places, heights, EntryFits, PassFits, SlotFits, OperatorFits}
use Rattle.nm_audit.specs.Held.{is_advance, is_kept, KeptFits, CellKept, held_of}
use Rattle.nm_audit.specs.Marks.{PhaseFits, PhasesFit, VerdictFits}
use Rattle.nm_audit.specs.Audits.{Audits}
use Rattle.nm_audit.specs.Agree.{Agree, AllStand}
use Rattle.nm_audit.proofs.First.{each_fits}
use Rattle.nm_audit.proofs.Bounds.{pass_ascends, slots_in_order}
use Rattle.nm_audit.proofs.Holders.{holders_told}

right_one : (advance held : Bool) → (advance || held) ≡ true → advance ≡ false → held ≡ true
right_one true held is none = cc
right_one false held is none = is

module _ {Config Node : Type 0} (cells : List (CellView Config Node)) where
  pass_stands : (highest : List ℕ) (entries : List PassEntry) → PassFits cells highest entries → AllStand cells entries
  pass_stands highest entries fits place entry at =
      let agrees = each_fits (EntryFits cells highest entries) entries fits place entry at in
      record { device_is = agrees.device_is; there = agrees.stands }

cell_held : {Config Node : Type 0} (slots : List SlotRecord) (operators : List PassState) (n place : ℕ) (cell : CellView Config Node) (entry : Noted) → CellKept slots operators n cell → slice_get (history_of cell) place ≡ Some entry
    → is_advance entry.event ≡ false → is_kept slots operators (number_of cell) (place + 1) ≡ true
cell_held slots operators n place cell entry kept at none =
    let right = each_fits (KeptFits (held_of slots operators cell)) (history_of cell) kept place entry at in
    sym (holders_told (number_of cell) place slots operators (length (history_of cell)) (slice_get_within (history_of cell) place entry at))
    ∙ right_one (is_advance entry.event) (slice_index_or (held_of slots operators cell) place false) right none

pub agreed : {Config Node : Type 0} (a : Audited Config Node) → Audits a None → Agree a
agreed a audit =
    let of_slots = audit.1.0.0.0 in
    let of_operators = audit.1.0.0.1 in
    record {
      cells_placed = λ place cell at. each_fits CellPlaced a.cells audit.0.0 place cell at;
      slots_placed = λ place slot at. each_fits SlotPlaced a.slots audit.0.1 place slot at;
      stand = record {
        of_slots = λ place slot at. pass_stands a.cells (heights (take place a.slots)) slot.pass.entries (each_fits (SlotFits a.cells a.slots) a.slots of_slots place slot at);
        of_operators = λ place pass at. pass_stands a.cells no_places pass.entries (each_fits (OperatorFits a.cells) a.operators of_operators place pass at);
      };
      ascend = record {
        of_slots = λ place slot at. pass_ascends a.cells (heights (take place a.slots)) slot.pass.entries (each_fits (SlotFits a.cells a.slots) a.slots of_slots place slot at);
        of_operators = λ place pass at. pass_ascends a.cells no_places pass.entries (each_fits (OperatorFits a.cells) a.operators of_operators place pass at);
      };
      in_order = λ i j lower higher less at there. slots_in_order a.cells a.slots of_slots i j lower higher less at there;
      held = λ n place cell entry at there none. cell_held a.slots a.operators n place cell entry (each_fits (CellKept a.slots a.operators) a.cells audit.1.0.1 n cell at) there none;
      phases = λ n place slot cell at there. each_fits (PhaseFits a.board slot.change) a.cells (each_fits (PhasesFit a.board a.cells) a.slots audit.1.1.0 n slot at) place cell there;
      verdicts = λ n slot at. each_fits (VerdictFits a.board a.entries) a.slots audit.1.1.1 n slot at;
    }
