-- The version of a record tells whether it has a timeout.
use Rattle.std.proofs.Common.{◌≡◌, inl, inr, ℕ, true, ◌&&◌, ◌==◌, not, Option, Some, None, List, drop, refl, sym, ◌∙◌, ap, arith}
use Rattle.std.specs.Prelude.{slice_index, option_map}
use Rattle.std.proofs.lemmas.List.{get_or-drop}
use Rattle.std.proofs.lemmas.Bool.{cases_Bool}
use Rattle.std.proofs.lemmas.Bool.Decides.{nat_tests}
use Rattle.nm_proto.specs.declared.journal.Entry.{Entry}
use Rattle.nm_proto.specs.declared.journal.Entry.TheVariants.{Started, Decided, Ended}
use Rattle.nm_proto.specs.declared.journal.Verdict.{Verdict}
use Rattle.nm_journal.specs.Record.{entry_of, started_of, decided_of, ended_of, timeout_of, names_version, verdict_at, is_change, number_at}
use Rattle.nm_journal.specs.Entries.{is_timed}

-- a change set that starts
timed_timeout : (change devices : ℕ) (last : List ℕ) (timeout : Option ℕ) → timeout_of last ≡ Some timeout → is_timed (Started change (record { 0 = devices }) timeout) ≡ not (slice_index last 0 == 0)
timed_timeout change devices last None reads = grind (arith, nat_tests)
timed_timeout change devices last (Some seconds) reads = grind (arith, nat_tests)

timed_started : (change devices : ℕ) (last : List ℕ) (found : Option (Option ℕ)) (entry : Entry) → timeout_of last ≡ found → option_map (Started change (record { 0 = devices })) found ≡ Some entry → is_timed entry ≡ not (slice_index last 0 == 0)
timed_started change devices last None entry is reads = absurd (cc reads)
timed_started change devices last (Some timeout) entry is reads =
    let same : Started change (record { 0 = devices }) timeout ≡ entry = cc in
    ap is_timed (sym same) ∙ timed_timeout change devices last timeout is

-- one that is decided
timed_decided : (change : ℕ) (found : Option Verdict) (entry : Entry) → option_map (Decided change) found ≡ Some entry → is_timed entry ≡ true
timed_decided change None entry reads = absurd (cc reads)
timed_decided change (Some verdict) entry reads = let same : Decided change verdict ≡ entry = cc in ap is_timed (sym same)

decided_is_timed : (change : ℕ) (rest : List ℕ) (entry : Entry) → decided_of change rest ≡ Some entry → is_timed entry ≡ true
decided_is_timed change rest entry reads = elim (cases_Bool (names_version (drop 4 rest))) [
  | inl named ↦ timed_decided change (verdict_at rest) entry (rw named at reads)
  | inr other ↦ absurd (cc (rw other at reads))
]

ended_is_timed : (change kept : ℕ) (last : List ℕ) (entry : Entry) → ended_of change kept last ≡ Some entry → is_timed entry ≡ true
ended_is_timed change kept last entry reads = elim (cases_Bool (names_version last)) [
  | inl named ↦ let here = rw named at reads in let same : Ended change (record { 0 = kept }) ≡ entry = cc in ap is_timed (sym same)
  | inr other ↦ absurd (cc (rw other at reads))
]

started_is_timed : (change devices : ℕ) (last : List ℕ) (entry : Entry) → started_of change devices last ≡ Some entry → is_timed entry ≡ not (slice_index last 0 == 0)
started_is_timed change devices last entry reads = elim (cases_Bool (devices == 0)) [
  | inl none ↦ absurd (cc (rw none at reads))
  | inr some ↦ timed_started change devices last (timeout_of last) entry refl (rw some at reads)
]

pub read_is_timed : (bytes : List ℕ) (entry : Entry) → entry_of bytes ≡ Some entry → is_timed entry ≡ not (slice_index bytes 0 == 1 && slice_index bytes 9 == 0)
read_is_timed bytes entry reads = elim (cases_Bool (is_change (number_at bytes 1))) [
  | inr out ↦ absurd (cc (rw out at reads))
  | inl valid ↦ elim (cases_Bool (slice_index bytes 0 == 1)) [
    | inl starts ↦ rw starts (started_is_timed (number_at bytes 1) (number_at bytes 5) (drop 9 bytes) entry (rw (valid, starts) at reads) ∙ ap (λ n. not (n == 0)) (get_or-drop 9 bytes 0 0))
    | inr later ↦ rw later (elim (cases_Bool (slice_index bytes 0 == 2)) [
      | inl decides ↦ decided_is_timed (number_at bytes 1) (drop 5 bytes) entry (rw (valid, later, decides) at reads)
      | inr last ↦ elim (cases_Bool (slice_index bytes 0 == 3)) [
        | inl ends ↦ ended_is_timed (number_at bytes 1) (number_at bytes 5) (drop 9 bytes) entry (rw (valid, later, last, ends) at reads)
        | inr other ↦ absurd (cc (rw (valid, later, last, other) at reads))
      ]
    ])
  ]
]
