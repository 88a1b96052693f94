-- A reader needs the first 3089 bytes of a journal.
use Rattle.std.proofs.Common.{◌≡◌, ◌≢◌, inl, inr, ℕ, zero, suc, ◌+◌, ◌-◌, ◌*◌, ◌≤◌, true, false, Result, List, [], ◌∷◌, ◌++◌, length, take, drop, get_or, refl, sym, ◌∙◌, ap, arith, length-append, length-drop, length-take}
use Rattle.std.proofs.lemmas.List.{drop-take, get_or-take}
use Rattle.std.proofs.lemmas.Bool.Decides.{nat_tests}
use Rattle.nm_proto.specs.declared.journal.Entry.{Entry}
use Rattle.nm_journal.specs.Record.{entry_of}
use Rattle.nm_journal.specs.Entries.{entries_from, entries_of, ends_here, IsInOrder}
use Rattle.nm_journal.proofs.OneRecord.{step_cases, next_step}
use Rattle.nm_journal.proofs.Reach.{open_gate, is_open, same_next, take_less}
use Rattle.nm_journal.proofs.Gate.{ends_now}
use Rattle.nm_journal.proofs.Loop.{bad_at, found_follows}
use Rattle.nm_journal.proofs.Bound.{at_most, order_push}

-- where a list ends, it ends in a front too
front_ends : (m : ℕ) (bytes : List ℕ) → 17 ≤ m → ends_here bytes ≡ true → ends_here (take m bytes) ≡ true
front_ends m bytes le here =
    let size = length-take m bytes in
    let gate = get_or-take m bytes 0 0 (omega arith) in
    grind (arith, nat_tests)

front_opens : (m : ℕ) (bytes : List ℕ) → 17 ≤ m → ends_here bytes ≡ false → (17 ≤ length (take m bytes)) × (get_or (take m bytes) 0 0 ≢ 0)
front_opens m bytes le here =
    let opened = open_gate bytes here in
    let size = length-take m bytes in
    let gate = get_or-take m bytes 0 0 (omega arith) in
    (omega (arith, opened.0), λ shut. opened.1 (sym gate ∙ shut))

pub front_reads : (fuel left m : ℕ) (before : List Entry) (bytes : List ℕ) → 16 * (192 - length before) + 17 ≤ m → length bytes ≤ fuel → length (take m bytes) ≤ left → IsInOrder before
    → entries_from left before (take m bytes) ≡ entries_from fuel before bytes
front_reads zero left m before bytes enough all part order =
    let size = length-take m bytes in
    ends_now left before (take m bytes) (grind (arith, nat_tests))
front_reads (suc fuel) zero m before bytes enough all part order =
    let size = length-take m bytes in
    let short : ends_here bytes ≡ true = grind (arith, nat_tests) in
    sym (ends_now (suc fuel) before bytes short)
front_reads (suc fuel) (suc left) m before bytes enough all part order = elim (step_cases fuel before bytes) [
  | inl end ↦ ends_now (suc left) before (take m bytes) (front_ends m bytes (omega arith) end.here) ∙ sym end.reads
  | inr (inl bad) ↦
      let opened = front_opens m bytes (omega arith) bad.here in
      let first : take 16 (take m bytes) ≡ take 16 bytes = take_less 16 m bytes (omega arith) in
      bad_at (suc left) before (take m bytes) part opened.0 opened.1 (same_next before (take m bytes) bytes first ∙ bad.none) ∙ sym bad.reads
  | inr (inr next) ↦
      let opened = front_opens m bytes (omega arith) next.here in
      let first : take 16 (take m bytes) ≡ take 16 bytes = take_less 16 m bytes (omega arith) in
      let step = next_step left before (take m bytes) next.entry (is_open (take m bytes) (omega (arith, opened.0)) opened.1) (same_next before (take m bytes) bytes first ∙ next.next) in
      let longer_order = order_push before next.entry order (found_follows before (entry_of (take 15 (drop 1 bytes))) next.entry next.next) in
      let few = at_most (before ++ next.entry ∷ []) longer_order in
      let more = length-append before (next.entry ∷ []) in
      let split : m ≡ 16 + (m - 16) = omega arith in
      let rest : drop 16 (take m bytes) ≡ take (m - 16) (drop 16 bytes) = ap (λ n. drop 16 (take n bytes)) split ∙ drop-take 16 (m - 16) bytes in
      let rest_size = length-drop 16 bytes in
      let part_size = length-drop 16 (take m bytes) in
      let later = front_reads fuel left (m - 16) (before ++ next.entry ∷ []) (drop 16 bytes) (omega arith) (omega arith) (omega (arith, ap length rest)) longer_order in
      step ∙ ap (entries_from left (before ++ next.entry ∷ [])) rest ∙ later ∙ sym next.reads
]

pub front_is_enough : (bytes : List ℕ) → entries_of (take 3089 bytes) ≡ entries_of bytes
front_is_enough bytes = front_reads (length bytes) (length (take 3089 bytes)) 3089 [] bytes (omega arith) (omega arith) (omega arith) refl

-- what is read of so many bytes is what all of them stand for
pub front_read : (bytes into : List ℕ) (count size : ℕ) (result : Result (List Entry) ℕ) → size ≡ 3089 → take count into ≡ take size bytes → entries_of (take count into) ≡ result → entries_of bytes ≡ result
front_read bytes into count size result is_size same reads =
    sym (front_is_enough bytes) ∙ ap (λ n. entries_of (take n bytes)) (sym is_size) ∙ ap entries_of (sym same) ∙ reads
