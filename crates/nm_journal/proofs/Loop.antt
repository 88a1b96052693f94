-- One turn of the loop that reads entries.
use Rattle.std.proofs.Common.{◌≡◌, ◌≢◌, inl, inr, ℕ, zero, suc, ◌*◌, ◌≤◌, true, Option, Some, None, Ok, Err, List, [], ◌∷◌, ◌++◌, length, drop, get_or, refl, sym, ◌∙◌, ap, arith, length-drop}
use Rattle.std.proofs.lemmas.Bool.{cases_Bool}
use Rattle.nm_proto.specs.declared.journal.Entry.{Entry}
use Rattle.nm_journal.specs.Entries.{entries_from, ends_here, next_entry, if_follows, may_follow}
use Rattle.nm_journal.proofs.OneRecord.{next_step, bad_step}
use Rattle.nm_journal.proofs.Reach.{GoesOnFrom, is_open}
use Rattle.nm_journal.proofs.Gate.{ends_now}

pub bad_at : (left : ℕ) (before : List Entry) (rest : List ℕ) → length rest ≤ left → 17 ≤ length rest → get_or rest 0 0 ≢ 0 → next_entry before rest ≡ None → entries_from left before rest ≡ Err (16 * length before)
bad_at zero before rest enough long gate none = absurd (omega arith)
bad_at (suc left) before rest enough long gate none = bad_step left before rest (is_open rest (omega arith) gate) none

pub reads_bad : (fuel : ℕ) (before : List Entry) (bytes rest : List ℕ) → GoesOnFrom fuel [] before bytes rest → 17 ≤ length rest → get_or rest 0 0 ≢ 0 → next_entry before rest ≡ None → entries_from fuel [] bytes ≡ Err (16 * length before)
reads_bad fuel before bytes rest on long gate none = on.reads ∙ bad_at on.left before rest on.enough long gate none

more_at : (left : ℕ) (before : List Entry) (rest : List ℕ) (entry : Entry) → length rest ≤ left → 17 ≤ length rest → get_or rest 0 0 ≢ 0 → next_entry before rest ≡ Some entry → GoesOnFrom left before (before ++ entry ∷ []) rest (drop 16 rest)
more_at zero before rest entry enough long gate next = absurd (omega arith)
more_at (suc left) before rest entry enough long gate next = record { left = left; enough = omega (arith, length-drop 16 rest); reads = next_step left before rest entry (is_open rest (omega arith) gate) next }

pub reads_more : (fuel : ℕ) (before : List Entry) (bytes rest : List ℕ) (entry : Entry) → GoesOnFrom fuel [] before bytes rest → 17 ≤ length rest → get_or rest 0 0 ≢ 0 → next_entry before rest ≡ Some entry → GoesOnFrom fuel [] (before ++ entry ∷ []) bytes (drop 16 rest)
reads_more fuel before bytes rest entry on long gate next =
    let more = more_at on.left before rest entry on.enough long gate next in
    record { left = more.left; enough = more.enough; reads = on.reads ∙ more.reads }

pub reads_end : (fuel : ℕ) (before : List Entry) (bytes rest : List ℕ) → GoesOnFrom fuel [] before bytes rest → ends_here rest ≡ true → entries_from fuel [] bytes ≡ Ok before
reads_end fuel before bytes rest on here = on.reads ∙ ends_now on.left before rest here

-- an entry that was found may come next
pub found_follows : (before : List Entry) (found : Option Entry) (entry : Entry) → if_follows before found ≡ Some entry → may_follow before entry ≡ true
found_follows before None entry found = absurd (cc found)
found_follows before (Some other) entry found = elim (cases_Bool (may_follow before other)) [
  | inl does ↦ let here : if_follows before (Some other) ≡ Some other = rw does refl in let same : other ≡ entry = cc in ap (may_follow before) (sym same) ∙ does
  | inr fails ↦ let none : if_follows before (Some other) ≡ None = rw fails refl in absurd (cc (sym none ∙ found))
]
