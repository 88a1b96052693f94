-- What an entry, and a fault of the disk, keep of the book.
use Rattle.std.proofs.Common.{◌≡◌, ℕ, ◌+◌, ◌-◌, ◌≤◌, ◌==◌, Bool, true, false, ◌&&◌, arith, List, [], ◌∷◌, ◌++◌, refl, sym, ap, ◌∙◌, subst, cond, inl, inr}
use Rattle.std.specs.Prelude.{Some, is_some, Result, Ok, Err, OnOk, slice_get}
use Rattle.std.specs.List.{list_all, count_by}
use Rattle.std.proofs.lemmas.List.Folds.{list_all-append}
use Rattle.std.proofs.lemmas.List.Sums.{sum_by-append}
use Rattle.std.proofs.lemmas.Bool.Decides.{nat_tests}
use Rattle.nm_disk.specs.Image.{DiskState}
use Rattle.nm_proto.specs.declared.journal.Entry.{Entry}
use Rattle.nm_proto.specs.declared.plan.ChangePlan.{ChangePlan}
use Rattle.nm_journal.specs.Fits.{JournalState, Fits}
use Rattle.nm_journal.specs.Keeps.{KeepsJournal}
use Rattle.nm_chronicle.specs.Board.{devices_of}
use Rattle.nm_slots.specs.declared.fault.RunFault.{RunFault}
use Rattle.nm_slots.specs.declared.fault.RunFault.TheVariants as fault
use Rattle.nm_slots.specs.Book.{BookView, no_entries, journal_with, is_decision, are_planned, starts_as_planned, Stops, IsBookKept}

both : (a b : Bool) → a ≡ true → b ≡ true → (a && b) ≡ true
both true b ea eb = eb
both false b ea eb = ea

same_number : (n : ℕ) → (n == n) ≡ true
same_number n = grind (arith, nat_tests)

-- the devices of a plan are those that are planned
pub planned_is : (changes : List ChangePlan) (change : ℕ) (plan : ChangePlan) → slice_get changes (change - 1) ≡ Some plan → are_planned (slice_get changes (change - 1)) (devices_of plan) ≡ true
planned_is changes change plan is = ap (λ p. are_planned p (devices_of plan)) is ∙ same_number (devices_of plan)

module _ {D : Type 0} (state : D → DiskState) (changes : List ChangePlan) (faults : ℕ) where
  abbrev pub book_of : JournalState → D → ℕ → BookView D
  book_of journal disk share = record { journal = journal; disk = disk; share = share }

  pub fresh_keeps : (journal : JournalState) (disk : D) (share : ℕ) → journal ≡ no_entries → Fits journal (state disk) → faults ≤ (state disk).faults → share ≡ 0
      → IsBookKept state changes faults (book_of journal disk share)
  fresh_keeps journal disk share fresh fits counted none = record {
    share = none ∙ sym (ap (λ (j : JournalState). count_by is_decision j.entries) fresh);
    planned = ap (λ (j : JournalState). list_all (starts_as_planned changes) j.entries) fresh;
    fits = fits;
    counted = counted;
    stopped = λ failed. absurd (let g : false ≡ true = sym (ap (λ (j : JournalState). is_some j.failed) fresh) ∙ failed in cc);
  }

  module _ (journal after : JournalState) (disk disk_after : D) (share share_after : ℕ) where
    -- an entry more
    entered_keeps : (entry : Entry) → IsBookKept state changes faults (book_of journal disk share) → after ≡ journal_with journal entry
        → starts_as_planned changes entry ≡ true → share_after ≡ share + cond (is_decision entry) 1 0 → KeepsJournal after (state disk) (state disk_after)
        → IsBookKept state changes faults (book_of after disk_after share_after)
    entered_keeps entry kept added planned counts keeps =
        let count : count_by is_decision (journal.entries ++ entry ∷ []) ≡ count_by is_decision journal.entries + (0 + cond (is_decision entry) 1 0) =
        sum_by-append (λ e. cond (is_decision e) 1 0) journal.entries (entry ∷ []) in
        let was = kept.share in
        let old = kept.counted in
        let grew = keeps.disk.count in
        let all : list_all (starts_as_planned changes) (journal.entries ++ entry ∷ []) ≡ true =
        list_all-append (starts_as_planned changes) journal.entries (entry ∷ [])
        ∙ both (list_all (starts_as_planned changes) journal.entries) (list_all (starts_as_planned changes) (entry ∷ [])) kept.planned (both (starts_as_planned changes entry) true planned refl) in
        record {
          share = counts ∙ omega (arith, was, count) ∙ sym (ap (λ (j : JournalState). count_by is_decision j.entries) added);
          planned = ap (λ (j : JournalState). list_all (starts_as_planned changes) j.entries) added ∙ all;
          fits = keeps.fits;
          counted = omega (arith, old, grew);
          stopped = λ failed.
              let rose = kept.stopped (sym (ap (λ (j : JournalState). is_some j.failed) added) ∙ failed) in
              omega (arith, rose, grew);
        }

    -- the disk failed, or had failed
    pub stopped_keeps : IsBookKept state changes faults (book_of journal disk share) → Stops state journal after disk disk_after → share_after ≡ share
        → IsBookKept state changes faults (book_of after disk_after share_after)
    stopped_keeps kept (inl was) same =
        subst (λ s. IsBookKept state changes faults (book_of after disk_after s)) (sym same)
        (subst (λ d. IsBookKept state changes faults (book_of after d share)) (sym was.2) (subst (λ j. IsBookKept state changes faults (book_of j disk share)) (sym was.1) kept))
    stopped_keeps kept (inr now) same =
        let old = kept.counted in
        let rose = now.rose in
        let grew = now.keeps.disk.count in
        record {
          share = same ∙ kept.share ∙ sym (ap (count_by is_decision) now.entries);
          planned = ap (list_all (starts_as_planned changes)) now.entries ∙ kept.planned;
          fits = now.keeps.fits;
          counted = omega (arith, old, grew);
          stopped = λ failed. omega (arith, old, rose);
        }

    -- nothing changed
    same_keeps : IsBookKept state changes faults (book_of journal disk share) → (after ≡ journal) × (disk_after ≡ disk) → share_after ≡ share
        → IsBookKept state changes faults (book_of after disk_after share_after)
    same_keeps kept was same =
        subst (λ s. IsBookKept state changes faults (book_of after disk_after s)) (sym same)
        (subst (λ d. IsBookKept state changes faults (book_of after d share)) (sym was.1) (subst (λ j. IsBookKept state changes faults (book_of j disk share)) (sym was.0) kept))

    -- whatever an entry that is no verdict comes to
    pub written_keeps : (entry : Entry) (result : Result (Unit {0}) RunFault) → starts_as_planned changes entry ≡ true → is_decision entry ≡ false
        → IsBookKept state changes faults (book_of journal disk share) → OnOk result (after ≡ journal_with journal entry) → OnOk result (KeepsJournal after (state disk) (state disk_after))
        → (result ≡ Err fault.NoMemory → (after ≡ journal) × (disk_after ≡ disk)) → (result ≡ Err fault.DiskFault → Stops state journal after disk disk_after) → share_after ≡ share
        → IsBookKept state changes faults (book_of after disk_after share_after)
    written_keeps entry (Ok done) planned plain kept added keeps no_memory stops same =
        entered_keeps entry kept added planned (same ∙ omega arith ∙ ap (λ b. share + cond b 1 0) (sym plain)) keeps
    written_keeps entry (Err fault.NoMemory) planned plain kept added keeps no_memory stops same = same_keeps kept (no_memory refl) same
    written_keeps entry (Err fault.DiskFault) planned plain kept added keeps no_memory stops same = stopped_keeps kept (stops refl) same

    -- a verdict that was written, and counted after that
    pub verdict_keeps : (entry : Entry) → starts_as_planned changes entry ≡ true → is_decision entry ≡ true → IsBookKept state changes faults (book_of journal disk share)
        → after ≡ journal_with journal entry → KeepsJournal after (state disk) (state disk_after) → share_after ≡ share + 1
        → IsBookKept state changes faults (book_of after disk_after share_after)
    verdict_keeps entry planned decides kept added keeps counts = entered_keeps entry kept added planned (counts ∙ ap (λ b. share + cond b 1 0) (sym decides)) keeps

    -- a verdict that wasn't
    pub unwritten_keeps : (why : RunFault) (result : Result (Unit {0}) RunFault) → result ≡ Err why → IsBookKept state changes faults (book_of journal disk share)
        → (result ≡ Err fault.NoMemory → (after ≡ journal) × (disk_after ≡ disk)) → (result ≡ Err fault.DiskFault → Stops state journal after disk disk_after) → share_after ≡ share
        → IsBookKept state changes faults (book_of after disk_after share_after)
    unwritten_keeps fault.NoMemory result is kept no_memory stops same = same_keeps kept (no_memory is) same
    unwritten_keeps fault.DiskFault result is kept no_memory stops same = stopped_keeps kept (stops is) same
