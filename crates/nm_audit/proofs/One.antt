-- What an audit finds is one: no mismatch where nothing is found, and no two first ones.
use Rattle.std.proofs.Common.{◌≡◌, inl, inr, ℕ, List, length, slice_get, take, Bool, true, false, Option, Some, None, sym, ap, subst, ◌∙◌}
use Rattle.std.proofs.lemmas.Bool.{cases_order}
use Rattle.std.proofs.lemmas.Option.{same_Some, slice_get_within}
use Rattle.nm_proto.specs.declared.journal.Entry.{Entry}
use Rattle.nm_chronicle.specs.Board.{BoardState}
use Rattle.nm_recovery.specs.Recovery.{verdict_in}
use Rattle.nm_cells.specs.declared.pass.PassEntry.{PassEntry}
use Rattle.nm_cells.specs.Pass.{PassState}
use Rattle.nm_cells.specs.State.{CellView}
use Rattle.nm_audit.specs.declared.mismatch.Mismatch.{Mismatch}
use Rattle.nm_audit.specs.declared.mismatch.Mismatch.TheVariants.{Verdict}
use Rattle.nm_audit.specs.declared.slot.SlotRecord.{SlotRecord}
use Rattle.nm_audit.specs.First.{FitTo, IsFirst, Finds, Then}
use Rattle.nm_audit.specs.Audited.{Audited, history_of, number_of}
use Rattle.nm_audit.specs.Numbers.{CellPlaced, CellMisplaced, SlotPlaced, SlotMisplaced}
use Rattle.nm_audit.specs.Passes.{no_places, heights, EntryFits, EntryFails, PassFits, PassFails, SlotFits, SlotFails, OperatorFits, OperatorFails}
use Rattle.nm_audit.specs.Held.{is_right, KeptFits, KeptFails, CellKept, CellUnkept, held_of}
use Rattle.nm_audit.specs.Marks.{PhaseFits, PhaseFails, PhasesFit, PhasesFail, VerdictFits, VerdictFails}
use Rattle.nm_audit.specs.Audits.{AuditsNumbers, AuditsPasses, AuditsHistories, AuditsEntries, AuditsPhases, AuditsVerdicts, AuditsBoard, Audits}
use Rattle.nm_audit.specs.Agree.{Agree}
use Rattle.nm_audit.proofs.Exact.{agree_audits}

-- a search finds either nothing or one thing
record IsOne (Search : Option Mismatch → Type 0) : Type 0 where
  refutes : (m : Mismatch) → Search None → Search (Some m) → ⊥
  alone : (m n : Mismatch) → Search (Some m) → Search (Some n) → m ≡ n

-- what fails doesn't fit, and one thing is told of it
record Decides {T : Type 0} (Fits : ℕ → T → Type 0) (Fails : ℕ → T → Mismatch → Type 0) : Type 0 where
  refutes : (place : ℕ) (it : T) (m : Mismatch) → Fails place it m → Fits place it → ⊥
  alone : (place : ℕ) (it : T) (m n : Mismatch) → Fails place it m → Fails place it n → m ≡ n

module _ {T : Type 0} (Fits : ℕ → T → Type 0) (Fails : ℕ → T → Mismatch → Type 0) (decides : Decides Fits Fails) (xs : List T) where
  first_refutes : (m : Mismatch) → FitTo Fits xs (length xs) → IsFirst Fits Fails xs m → ⊥
  first_refutes m fits first = decides.refutes first.place first.it m first.fails (fits first.place first.it (slice_get_within xs first.place first.it first.stands) first.stands)

  first_alone : (m n : Mismatch) → IsFirst Fits Fails xs m → IsFirst Fits Fails xs n → m ≡ n
  first_alone m n one other = elim (cases_order one.place other.place) [
    | inl same ↦ (
        let it : one.it ≡ other.it = same_Some one.it other.it (sym one.stands ∙ (ap (slice_get xs) same ∙ other.stands)) in
        decides.alone other.place other.it m n (subst (λ k. Fails k other.it m) same (subst (λ x. Fails one.place x m) it one.fails)) other.fails)
    | inr apart ↦ (elim apart [
      | inl less ↦ absurd (decides.refutes one.place one.it m one.fails (other.before one.place one.it less one.stands))
      | inr more ↦ absurd (decides.refutes other.place other.it n other.fails (one.before other.place other.it more other.stands))
    ])
  ]

  list_one : IsOne (Finds Fits Fails xs)
  list_one = record { refutes = λ m fits first. first_refutes m fits first; alone = λ m n one other. first_alone m n one other }

then_one : (First Second : Option Mismatch → Type 0) → IsOne First → IsOne Second → IsOne (Then First Second)
then_one First Second first second = record {
  refutes = λ m nothing found. elim found [
    | inl here ↦ first.refutes m nothing.0 here
    | inr later ↦ second.refutes m nothing.1 later.1
  ];
  alone = λ m n one other. elim one [
    | inl here ↦ (elim other [
      | inl there ↦ first.alone m n here there
      | inr later ↦ absurd (first.refutes m later.0 here)
    ])
    | inr here ↦ (elim other [
      | inl there ↦ absurd (first.refutes n here.0 there)
      | inr later ↦ second.alone m n here.1 later.1
    ])
  ];
}

-- ---- numbers

cells_decide : {Config Node : Type 0} → Decides {T = CellView Config Node} CellPlaced CellMisplaced
cells_decide = record { refutes = λ place cell m fails fits. fails.unfit fits; alone = λ place cell m n one other. one.told ∙ sym other.told }

slots_decide : Decides SlotPlaced SlotMisplaced
slots_decide = record { refutes = λ place slot m fails fits. fails.unfit fits; alone = λ place slot m n one other. one.told ∙ sym other.told }

-- ---- entries

module _ {Config Node : Type 0} (cells : List (CellView Config Node)) where
  entries_decide : (highest : List ℕ) (entries : List PassEntry) → Decides (EntryFits cells highest entries) (EntryFails cells highest entries)
  entries_decide highest entries = record { refutes = λ place entry m fails fits. fails.unfit fits; alone = λ place entry m n one other. one.told ∙ sym other.told }

  pass_refutes : (highest : List ℕ) (entries : List PassEntry) (m : Mismatch) → PassFails cells highest entries m → PassFits cells highest entries → ⊥
  pass_refutes highest entries m fails fits = first_refutes (EntryFits cells highest entries) (EntryFails cells highest entries) (entries_decide highest entries) entries m fits fails

  pass_alone : (highest : List ℕ) (entries : List PassEntry) (m n : Mismatch) → PassFails cells highest entries m → PassFails cells highest entries n → m ≡ n
  pass_alone highest entries m n one other = first_alone (EntryFits cells highest entries) (EntryFails cells highest entries) (entries_decide highest entries) entries m n one other

  slot_passes_decide : (slots : List SlotRecord) → Decides (SlotFits cells slots) (SlotFails cells slots)
  slot_passes_decide slots = record {
    refutes = λ place slot m fails fits. pass_refutes (heights (take place slots)) slot.pass.entries m fails fits;
    alone = λ place slot m n one other. pass_alone (heights (take place slots)) slot.pass.entries m n one other;
  }

  operators_decide : Decides (OperatorFits cells) (OperatorFails cells)
  operators_decide = record {
    refutes = λ place pass m fails fits. pass_refutes no_places pass.entries m fails fits;
    alone = λ place pass m n one other. pass_alone no_places pass.entries m n one other;
  }

both_ways : (b : Bool) → b ≡ true → b ≡ false → ⊥
both_ways b is isnt = cc

kept_decide : (device : ℕ) (held : List Bool) → Decides (KeptFits held) (KeptFails device held)
kept_decide device held = record { refutes = λ place entry m fails fits. both_ways (is_right held place entry) fits fails.unfit; alone = λ place entry m n one other. one.told ∙ sym other.told }

histories_decide : {Config Node : Type 0} (slots : List SlotRecord) (operators : List PassState) → Decides {T = CellView Config Node} (CellKept slots operators) (CellUnkept slots operators)
histories_decide slots operators = record {
  refutes = λ place cell m fails fits.
      first_refutes (KeptFits (held_of slots operators cell)) (KeptFails (number_of cell) (held_of slots operators cell)) (kept_decide (number_of cell) (held_of slots operators cell)) (history_of cell) m fits fails;
  alone = λ place cell m n one other.
      first_alone (KeptFits (held_of slots operators cell)) (KeptFails (number_of cell) (held_of slots operators cell)) (kept_decide (number_of cell) (held_of slots operators cell)) (history_of cell) m n one other;
}

-- ---- the board

module _ {Config Node : Type 0} (board : BoardState) (cells : List (CellView Config Node)) where
  phase_decides : (change : ℕ) → Decides {T = CellView Config Node} (PhaseFits board change) (PhaseFails board change)
  phase_decides change = record { refutes = λ place cell m fails fits. fails.unfit fits; alone = λ place cell m n one other. one.told ∙ sym other.told }

  phases_decide : Decides (PhasesFit board cells) (PhasesFail board cells)
  phases_decide = record {
    refutes = λ place slot m fails fits. first_refutes (PhaseFits board slot.change) (PhaseFails board slot.change) (phase_decides slot.change) cells m fits fails;
    alone = λ place slot m n one other. first_alone (PhaseFits board slot.change) (PhaseFails board slot.change) (phase_decides slot.change) cells m n one other;
  }

module _ (board : BoardState) (entries : List Entry) where
  verdict_refutes : (place : ℕ) (slot : SlotRecord) (m : Mismatch) → VerdictFails board entries place slot m → VerdictFits board entries place slot → ⊥
  verdict_refutes place slot m fails fits = elim fails.whose [
    | inl boards ↦ boards.0 fits.on_board
    | inr slots ↦ fails.differs (slots.1 ∙ fits.in_slot)
  ]

  verdict_found : (place : ℕ) (slot : SlotRecord) (m n : Mismatch) (one : VerdictFails board entries place slot m) (other : VerdictFails board entries place slot n) → one.found ≡ other.found
  verdict_found place slot m n one other = elim one.whose [
    | inl boards ↦ (elim other.whose [
      | inl its ↦ boards.1 ∙ sym its.1
      | inr its ↦ absurd (boards.0 its.0)
    ])
    | inr slots ↦ (elim other.whose [
      | inl its ↦ absurd (its.0 slots.0)
      | inr its ↦ slots.1 ∙ sym its.1
    ])
  ]

  verdicts_decide : Decides (VerdictFits board entries) (VerdictFails board entries)
  verdicts_decide = record {
    refutes = verdict_refutes;
    alone = λ place slot m n one other. one.told ∙ (ap (λ found. Verdict slot.change (verdict_in slot.change entries) found) (verdict_found place slot m n one other) ∙ sym other.told);
  }

-- ---- all of it

one_audit : {Config Node : Type 0} (a : Audited Config Node) → IsOne (Audits a)
one_audit a =
    then_one (AuditsNumbers a.cells a.slots) (Then (AuditsEntries a.cells a.slots a.operators) (AuditsBoard a.cells a.slots a.board a.entries))
    (then_one (Finds CellPlaced CellMisplaced a.cells) (Finds SlotPlaced SlotMisplaced a.slots) (list_one CellPlaced CellMisplaced cells_decide a.cells) (list_one SlotPlaced SlotMisplaced slots_decide a.slots))
    (then_one (AuditsEntries a.cells a.slots a.operators) (AuditsBoard a.cells a.slots a.board a.entries)
    (then_one (AuditsPasses a.cells a.slots a.operators) (AuditsHistories a.cells a.slots a.operators)
    (then_one (Finds (SlotFits a.cells a.slots) (SlotFails a.cells a.slots) a.slots) (Finds (OperatorFits a.cells) (OperatorFails a.cells) a.operators)
    (list_one (SlotFits a.cells a.slots) (SlotFails a.cells a.slots) (slot_passes_decide a.cells a.slots) a.slots) (list_one (OperatorFits a.cells) (OperatorFails a.cells) (operators_decide a.cells) a.operators))
    (list_one (CellKept a.slots a.operators) (CellUnkept a.slots a.operators) (histories_decide a.slots a.operators) a.cells))
    (then_one (AuditsPhases a.cells a.slots a.board a.entries) (AuditsVerdicts a.cells a.slots a.board a.entries)
    (list_one (PhasesFit a.board a.cells) (PhasesFail a.board a.cells) (phases_decide a.board a.cells) a.slots) (list_one (VerdictFits a.board a.entries) (VerdictFails a.board a.entries) (verdicts_decide a.board a.entries) a.slots)))

pub found_apart : {Config Node : Type 0} (a : Audited Config Node) (m : Mismatch) → Audits a (Some m) → Agree a → ⊥
found_apart a m found agree = (one_audit a).refutes m (agree_audits a agree) found

pub found_alone : {Config Node : Type 0} (a : Audited Config Node) (m n : Mismatch) → Audits a (Some m) → Audits a (Some n) → m ≡ n
found_alone a m n one other = (one_audit a).alone m n one other
