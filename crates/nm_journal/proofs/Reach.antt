-- Bytes that are the same up to some record.
use Rattle.std.proofs.Common.{◌≡◌, inl, inr, ℕ, zero, suc, ◌+◌, ◌*◌, ◌<◌, ◌≤◌, true, false, Ok, List, [], ◌∷◌, ◌++◌, length, take, drop, get_or, refl, sym, ◌∙◌, ap, subst, arith, length-append, length-drop, ◌≢◌}
use Rattle.std.proofs.lemmas.List.{drop-drop, drop-take, get_or-take}
use Rattle.std.proofs.lemmas.Bool.Decides.{nat_tests}
use Rattle.nm_proto.specs.declared.journal.Entry.{Entry}
use Rattle.nm_journal.specs.Record.{entry_of}
use Rattle.nm_journal.specs.Entries.{entries_from, ends_here, next_entry, if_follows}
use Rattle.nm_journal.proofs.OneRecord.{step_cases, next_step}

-- an open gate with enough bytes behind it
pub is_open : (bytes : List ℕ) → 16 < length bytes → get_or bytes 0 0 ≢ 0 → ends_here bytes ≡ false
is_open bytes long gate = grind (arith, nat_tests)

pub open_gate : (bytes : List ℕ) → ends_here bytes ≡ false → (16 < length bytes) × (get_or bytes 0 0 ≢ 0)
open_gate bytes here = (grind (arith, nat_tests), grind (arith, nat_tests))

pub is_closed : (bytes : List ℕ) → get_or bytes 0 0 ≡ 0 → ends_here bytes ≡ true
is_closed bytes gate = grind (arith, nat_tests)

pub is_short : (bytes : List ℕ) → length bytes ≤ 16 → ends_here bytes ≡ true
is_short bytes short = grind (arith, nat_tests)

pub take_less : (n m : ℕ) (l : List ℕ) → n ≤ m → take n (take m l) ≡ take n l
take_less zero m l le = refl
take_less (suc n) zero l le = absurd (omega arith)
take_less (suc n) (suc m) [] le = refl
take_less (suc n) (suc m) (x ∷ l) le = ap (λ t. x ∷ t) (take_less n m l (omega arith))

-- a front of a front
pub front_of : (n m : ℕ) (c d : List ℕ) → n ≤ m → take m c ≡ take m d → take n c ≡ take n d
front_of n m c d le same = sym (take_less n m c le) ∙ ap (take n) same ∙ take_less n m d le

-- what is behind a front
behind : (n m : ℕ) (c d : List ℕ) → take (n + m) c ≡ take (n + m) d → take m (drop n c) ≡ take m (drop n d)
behind n m c d same = sym (drop-take n m c) ∙ ap (drop n) same ∙ drop-take n m d

same_gate : (c d : List ℕ) → take 16 c ≡ take 16 d → get_or c 0 0 ≡ get_or d 0 0
same_gate c d same = sym (get_or-take 16 c 0 0 (omega arith)) ∙ ap (λ l. get_or l 0 0) same ∙ get_or-take 16 d 0 0 (omega arith)

pub same_next : (before : List Entry) (c d : List ℕ) → take 16 c ≡ take 16 d → next_entry before c ≡ next_entry before d
same_next before c d same = ap (λ l. if_follows before (entry_of l)) (behind 1 15 c d same)

-- reading only adds entries
longer : (fuel : ℕ) (before all : List Entry) (bytes : List ℕ) → entries_from fuel before bytes ≡ Ok all → length before ≤ length all
longer zero before all bytes reads = let same : before ≡ all = cc in omega (arith, ap length same)
longer (suc more) before all bytes reads = elim (step_cases more before bytes) [
  | inl end ↦ let same : before ≡ all = cc (end.reads) in omega (arith, ap length same)
  | inr (inl bad) ↦ absurd (cc (bad.reads))
  | inr (inr next) ↦ let more_le = longer more (before ++ next.entry ∷ []) all (drop 16 bytes) (sym next.reads ∙ reads) in omega (arith, length-append before (next.entry ∷ []))
]

-- reading goes on from a place, behind these entries
pub record GoesOnFrom (fuel : ℕ) (before all : List Entry) (bytes rest : List ℕ) : Type 0 where
  pub left : ℕ
  pub enough : length rest ≤ left
  pub reads : entries_from fuel before bytes ≡ entries_from left all rest

at_start : (fuel : ℕ) (before all : List Entry) (bytes : List ℕ) (fc : ℕ) (c : List ℕ) → length c ≤ fc → before ≡ all → GoesOnFrom fc before all c c
at_start fuel before all bytes fc c enough same = record { left = fc; enough = enough; reads = ap (λ l. entries_from fc l c) same }

-- bytes of which as many records are the same as were read go on from there
pub reach : (fd fc count : ℕ) (before all : List Entry) (d c : List ℕ) → length c ≤ fc → entries_from fd before d ≡ Ok all → length all ≡ length before + count
    → take (16 * count) c ≡ take (16 * count) d → (0 < count → 16 * count < length c) → GoesOnFrom fc before all c (drop (16 * count) c)
reach zero fc zero before all d c enough reads size same long = let start : before ≡ all = cc in at_start zero before all d fc c enough start
reach zero fc (suc count) before all d c enough reads size same long = let start : before ≡ all = cc in absurd (omega (arith, ap length start))
reach (suc fd) fc zero before all d c enough reads size same long = elim (step_cases fd before d) [
  | inl end ↦ let start : before ≡ all = cc (end.reads) in at_start fd before all d fc c enough start
  | inr (inl bad) ↦ absurd (cc (bad.reads))
  | inr (inr next) ↦ let more_le = longer fd (before ++ next.entry ∷ []) all (drop 16 d) (sym next.reads ∙ reads) in absurd (omega (arith, length-append before (next.entry ∷ [])))
]
reach (suc fd) zero (suc count) before all d c enough reads size same long = absurd (omega (arith, long (omega arith)))
reach (suc fd) (suc fc) (suc count) before all d c enough reads size same long = elim (step_cases fd before d) [
  | inl end ↦ let start : before ≡ all = cc (end.reads) in absurd (omega (arith, ap length start))
  | inr (inl bad) ↦ absurd (cc (bad.reads))
  | inr (inr next) ↦
      let first : take 16 c ≡ take 16 d = front_of 16 (16 * suc count) c d (omega arith) same in
      let opened = open_gate d next.here in
      let c_long = long (omega arith) in
      let c_open : ends_here c ≡ false = is_open c (omega arith) (λ shut. opened.1 (sym (same_gate c d first) ∙ shut)) in
      let c_next = next_step fc before c next.entry c_open (same_next before c d first ∙ next.next) in
      let is_sixteen : 16 * suc count ≡ 16 + 16 * count = omega arith in
      let later : take (16 * count) (drop 16 c) ≡ take (16 * count) (drop 16 d) = behind 16 (16 * count) c d (rw (← is_sixteen) same) in
      let rest_size = length-drop 16 c in
      let goes_on = reach fd fc count (before ++ next.entry ∷ []) all (drop 16 d) (drop 16 c) (omega arith) (sym next.reads ∙ reads) (omega (arith, length-append before (next.entry ∷ []))) later (λ some. omega arith) in
      let place : drop (16 * count) (drop 16 c) ≡ drop (16 * suc count) c = drop-drop (16 * count) 16 c ∙ ap (λ n. drop n c) (sym is_sixteen) in
      record { left = goes_on.left; enough = subst (λ rest. length rest ≤ goes_on.left) place goes_on.enough; reads = c_next ∙ goes_on.reads ∙ ap (entries_from goes_on.left all) place }
]

-- bytes that read as so many entries, of which there is at least one, have them and a gate behind them
pub long_enough : (fuel count : ℕ) (before all : List Entry) (bytes : List ℕ) → entries_from fuel before bytes ≡ Ok all → length all ≡ length before + suc count → 16 * suc count < length bytes
long_enough zero count before all bytes reads size = let start : before ≡ all = cc in absurd (omega (arith, ap length start))
long_enough (suc fuel) zero before all bytes reads size = elim (step_cases fuel before bytes) [
  | inl end ↦ let start : before ≡ all = cc (end.reads) in absurd (omega (arith, ap length start))
  | inr (inl bad) ↦ absurd (cc (bad.reads))
  | inr (inr next) ↦ omega (arith, (open_gate bytes next.here).0)
]
long_enough (suc fuel) (suc count) before all bytes reads size = elim (step_cases fuel before bytes) [
  | inl end ↦ let start : before ≡ all = cc (end.reads) in absurd (omega (arith, ap length start))
  | inr (inl bad) ↦ absurd (cc (bad.reads))
  | inr (inr next) ↦
      let rest = long_enough fuel count (before ++ next.entry ∷ []) all (drop 16 bytes) (sym next.reads ∙ reads) (omega (arith, length-append before (next.entry ∷ []))) in
      omega (arith, rest, length-drop 16 bytes)
]
