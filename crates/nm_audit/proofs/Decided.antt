-- Where all agree, what became of a change set is as its verdict has it.
use Rattle.std.proofs.Common.{◌≡◌, ◌≢◌, ◌<◌, ◌≤◌, inl, inr, ℕ, zero, suc, ◌+◌, ◌-◌, Bool, true, false, List, slice_get, Option, Some, None, refl, sym, ap, subst, ◌∙◌, arith, if◌then◌else◌}
use Rattle.std.proofs.lemmas.Bool.{cases_eq}
use Rattle.std.proofs.lemmas.List.Elements.{All-get_or}
use Rattle.std.proofs.lemmas.Option.{slice_get_within, get_or_from_slice_get}
use Rattle.nm_base.specs.Mask.{mask_contains}
use Rattle.nm_base.specs.Token.{token_of}
use Rattle.nm_proto.specs.declared.journal.Verdict.{Verdict}
use Rattle.nm_proto.specs.declared.journal.Verdict.TheVariants.{Commit, Abort}
use Rattle.nm_proto.specs.declared.plan.ChangePlan.{ChangePlan}
use Rattle.nm_proto.specs.Content.{Meaning, TablesState}
use Rattle.nm_history.specs.declared.outcome.Outcome.{Outcome}
use Rattle.nm_history.specs.declared.outcome.Outcome.TheVariants.{Undone}
use Rattle.nm_history.specs.declared.outcome.Undoing.{Undoing}
use Rattle.nm_history.specs.declared.outcome.Undoing.TheVariants.{Cancel, End, Timer, Restart}
use Rattle.nm_history.specs.Outcome.{outcome_of}
use Rattle.nm_device_laws.proofs.Lasting.{tokens_last}
use Rattle.nm_chronicle.specs.Line.{LineState, LineHolds, count_to, size, phase_of, is_commit, is_abort}
use Rattle.nm_chronicle.specs.Board.{BoardHolds}
use Rattle.nm_chronicle.specs.Phases.{outcome_phase}
use Rattle.nm_recovery.specs.Recovery.{verdict_in}
use Rattle.nm_cells.specs.State.{CellView}
use Rattle.nm_audit.specs.declared.slot.SlotRecord.{SlotRecord}
use Rattle.nm_audit.specs.Audited.{Audited, history_of, number_of}
use Rattle.nm_audit.specs.Marks.{phase_in, phase_on, verdict_of_line}
use Rattle.nm_audit.specs.Agree.{Agree}
use Rattle.nm_audit.specs.Commits.{LegalCell}
use Rattle.nm_audit.specs.Decided.{is_by_itself, EndsAsDecided, TellsOutcome}
use Rattle.nm_audit.proofs.Phases.{tells}

-- ---- sets of devices

never : (b : Bool) → b ≡ true → b ≡ false → ⊥
never b is isnt = cc

module _ (some all : ℕ) (inside : (d : ℕ) → 0 < d → mask_contains some d ≡ true → mask_contains all d ≡ true) where
  fewer_if : (n : ℕ) (a b : Bool) → mask_contains some (suc n) ≡ a → mask_contains all (suc n) ≡ b → count_to some n ≤ count_to all n → (if a then count_to some n + 1 else count_to some n) ≤ (if b then count_to all n + 1 else count_to all n)
  fewer_if n true true is its fewer = omega (arith, fewer)
  fewer_if n true false is its fewer = absurd (never (mask_contains all (suc n)) (inside (suc n) (omega arith) is) its)
  fewer_if n false true is its fewer = omega (arith, fewer)
  fewer_if n false false is its fewer = fewer

  fewer : (n : ℕ) → count_to some n ≤ count_to all n
  fewer zero = omega arith
  fewer (suc n) = fewer_if n (mask_contains some (suc n)) (mask_contains all (suc n)) refl refl (fewer n)

  -- where as many are in, all are
  as_many : (n : ℕ) → count_to all n ≤ count_to some n → (d : ℕ) → 0 < d → d ≤ n → mask_contains all d ≡ true → mask_contains some d ≡ true
  as_many zero enough d low high is = absurd (omega (arith, low, high))
  as_many (suc n) enough d low high is = by_tests (mask_contains some (suc n)) (mask_contains all (suc n)) refl refl enough (λ least other. as_many n least d low (omega (arith, high, other)) is) (fewer n)
    where
      by_tests : (a b : Bool) → mask_contains some (suc n) ≡ a → mask_contains all (suc n) ≡ b → (if b then count_to all n + 1 else count_to all n) ≤ (if a then count_to some n + 1 else count_to some n) → (count_to all n ≤ count_to some n → d ≢ suc n → mask_contains some d ≡ true)
          → count_to some n ≤ count_to all n → mask_contains some d ≡ true
      by_tests true true here there more later less = elim (cases_eq d (suc n)) [
        | inl same ↦ ap (mask_contains some) same ∙ here
        | inr other ↦ later (omega (arith, more)) other
      ]
      by_tests true false here there more later less = absurd (never (mask_contains all (suc n)) (inside (suc n) (omega arith) here) there)
      by_tests false true here there more later less = absurd (omega (arith, more, less))
      by_tests false false here there more later less = elim (cases_eq d (suc n)) [
        | inl same ↦ absurd (never (mask_contains all (suc n)) (sym (ap (mask_contains all) same) ∙ is) there)
        | inr other ↦ later more other
      ]

-- as many devices in all
all_of : (some all : ℕ) → ((d : ℕ) → 0 < d → mask_contains some d ≡ true → mask_contains all d ≡ true) → size some ≡ size all → (d : ℕ) → 0 < d → d ≤ 32 → mask_contains all d ≡ true → mask_contains some d ≡ true
unfolding size
all_of some all inside same d low high is = as_many some all inside 32 (omega (arith, same)) d low high is

-- ---- a line of the board

module _ (line : LineState) (holds : LineHolds line) where
  -- who acknowledged is of the change set
  acknowledged_own : (d : ℕ) → 0 < d → mask_contains line.acknowledged d ≡ true → mask_contains line.devices d ≡ true
  acknowledged_own d low is = by_test (mask_contains line.devices d) refl
    where
      by_test : (b : Bool) → mask_contains line.devices d ≡ b → mask_contains line.devices d ≡ true
      by_test true e = e
      by_test false e = let applied = holds.applied_first d low is in let none = holds.its_own d low e in absurd (omega (arith, applied, none))

  committed_phase : is_commit line.verdict ≡ true → (d : ℕ) → 0 < d → d ≤ 32 → mask_contains line.devices d ≡ true → 1 ≤ phase_of line d
  committed_phase commit d low high is =
      holds.applied_first d low (all_of line.acknowledged line.devices acknowledged_own (sym holds.acked ∙ holds.all_acked commit) d low high is)

-- ---- outcomes and phases

apart : (verdict : Option Verdict) → is_commit verdict ≡ true → is_abort verdict ≡ true → ⊥
apart None commit abort = cc
apart (Some Commit) commit abort = cc
apart (Some (Abort cause)) commit abort = cc

ends_as : (verdict : Option Verdict) (outcome : Outcome) (phase : ℕ) → phase ≡ outcome_phase outcome → (is_commit verdict ≡ true → 1 ≤ phase) → (phase ≡ 2 → is_commit verdict ≡ true) → (phase ≡ 4 → is_abort verdict ≡ true) → outcome ≢ Undone End
    → EndsAsDecided verdict outcome
ends_as verdict outcome phase is applied confirmed cancelled lasts = record {
  committed = λ commit none. (let some = applied commit in let zero_ : phase ≡ 0 = is ∙ ap outcome_phase none in omega (arith, some, zero_));
  kept = λ commit by undone. by_itself by commit undone;
  aborted = λ abort confirm. apart verdict (confirmed (is ∙ ap outcome_phase confirm)) abort;
}
  where
    by_itself : (by : Undoing) → is_commit verdict ≡ true → outcome ≡ Undone by → is_by_itself by ≡ true
    by_itself Cancel commit undone = absurd (apart verdict commit (cancelled (is ∙ ap outcome_phase undone)))
    by_itself End commit undone = absurd (lasts undone)
    by_itself Timer commit undone = refl
    by_itself Restart commit undone = refl

pub ends_decided : {Config TheEdit Node : Type 0} (m : Meaning Config TheEdit Node) (tables : TablesState TheEdit) (a : Audited Config Node) (devices : ℕ) (changes : List ChangePlan) → Agree a → BoardHolds devices changes a.board
    → (n place : ℕ) (slot : SlotRecord) (cell : CellView Config Node) (line : LineState) → slice_get a.slots n ≡ Some slot → slice_get a.cells place ≡ Some cell → slice_get a.board.lines (slot.change - 1) ≡ Some line
    → mask_contains line.devices (number_of cell) ≡ true → number_of cell ≤ 32 → LegalCell m tables cell → EndsAsDecided (verdict_in slot.change a.entries) (outcome_of (token_of slot.change) (history_of cell))
ends_decided m tables a devices changes agree board n place slot cell line at there stands member high legal =
    let number = agree.cells_placed place cell there in
    let low : 0 < number_of cell = omega (arith, number) in
    let holds : LineHolds line = subst LineHolds (get_or_from_slice_get a.board.lines (slot.change - 1) line line stands) (All-get_or LineHolds a.board.lines (slot.change - 1) line (slice_get_within a.board.lines (slot.change - 1) line stands) board.lines_hold) in
    let verdict : line.verdict ≡ verdict_in slot.change a.entries = sym (ap verdict_of_line stands) ∙ (agree.verdicts n slot at).on_board in
    let phase : phase_of line (number_of cell) ≡ outcome_phase (outcome_of (token_of slot.change) (history_of cell)) = sym (ap (λ l. phase_in l (number_of cell)) stands) ∙ agree.phases n place slot cell at there in
    subst (λ v. EndsAsDecided v (outcome_of (token_of slot.change) (history_of cell))) verdict
    (ends_as line.verdict (outcome_of (token_of slot.change) (history_of cell)) (phase_of line (number_of cell)) phase
    (λ commit. committed_phase line holds commit (number_of cell) low high member)
    (λ confirmed. holds.confirmed (number_of cell) low confirmed)
    (λ cancelled. holds.cancelled (number_of cell) low cancelled)
    (tokens_last m tables (token_of slot.change) legal.running (history_of cell) legal.legal))

pub phases_told : {Config TheEdit Node : Type 0} (m : Meaning Config TheEdit Node) (tables : TablesState TheEdit) (a : Audited Config Node) → Agree a → (n place : ℕ) (slot : SlotRecord) (cell : CellView Config Node) → slice_get a.slots n ≡ Some slot → slice_get a.cells place ≡ Some cell
    → LegalCell m tables cell → TellsOutcome (phase_on a.board slot.change (number_of cell)) (outcome_of (token_of slot.change) (history_of cell))
phases_told m tables a agree n place slot cell at there legal =
    subst (λ phase. TellsOutcome phase (outcome_of (token_of slot.change) (history_of cell))) (sym (agree.phases n place slot cell at there))
    (tells (outcome_of (token_of slot.change) (history_of cell)) (tokens_last m tables (token_of slot.change) legal.running (history_of cell) legal.legal))
