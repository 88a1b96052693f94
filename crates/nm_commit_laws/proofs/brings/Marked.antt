-- The marks that an edit takes are those of change sets that are ended.
use Rattle.std.proofs.Common.{◌≡◌, ◌∙◌, ℕ, ◌-◌, ◌≤◌, ◌==◌, Bool, true, false, ◌||◌, nat_eq, fold, List, [], ◌∷◌, ◌++◌, refl, sym, ap, arith}
use Rattle.std.specs.Int.{w64}
use Rattle.std.specs.List.{list_any}
use Rattle.std.proofs.lemmas.Bool.Decides.{nat_tests}
use Rattle.std.proofs.lemmas.Nat.Bits.{bit_at-zero}
use Rattle.std.proofs.lemmas.List.Folds.{list_any-append}
use Rattle.nm_base.specs.Mask.{mask_contains}
use Rattle.nm_base.proofs.Masks.{with_is}
use Rattle.nm_proto.specs.declared.journal.Entry.{Entry}
use Rattle.nm_proto.specs.declared.journal.Entry.TheVariants.{Started, Decided, Ended}
use Rattle.nm_journal.specs.Record.{is_change}
use Rattle.nm_journal.specs.Entries.{ends, has_record, may_follow}
use Rattle.nm_recovery.specs.Recovery.{ended_on, is_ended_in, started_on, with_change, with_ended, with_if}
use Rattle.nm_safety.proofs.Basics.{either}
use Rattle.nm_safety.proofs.Tables.{both}
use Rattle.nm_safety.proofs.Entries.{false_or, nat_itself, nat_same}

change_bounds : (c : ℕ) → is_change c ≡ true → (1 ≤ c) × (c ≤ 64)
change_bounds c e = (low c e, high c e)
  where
    low : (c : ℕ) → is_change c ≡ true → 1 ≤ c
    low c e = grind (arith, nat_tests)

    high : (c : ℕ) → is_change c ≡ true → c ≤ 64
    high c e = grind (arith, nat_tests)

-- one more
with_one : (mask c n : ℕ) → is_change c ≡ true → 1 ≤ n → mask_contains (with_change mask c) n ≡ (mask_contains mask n || nat_eq n c)
unfolding with_change
with_one mask c n e one =
    let b : (1 ≤ c) × (c ≤ 64) = change_bounds c e in with_is w64 mask (c - 1) c refl b.0 (omega (arith, b)) n (omega (arith, one))

with_more : (mask c n : ℕ) → is_change c ≡ true → 1 ≤ n → (b : Bool) → mask_contains (with_if mask b c) n ≡ true
    → (mask_contains mask n || nat_eq n c) ≡ true
with_more mask c n e one false h = ap (λ b. b || nat_eq n c) h
with_more mask c n e one true h = sym (with_one mask c n e one) ∙ h

or_first : (a b : Bool) → a ≡ true → (a || b) ≡ true
or_first true b e = refl
or_first false b e = absurd (let g : false ≡ true = e in cc)

or_second : (a b : Bool) → b ≡ true → (a || b) ≡ true
or_second true b e = refl
or_second false b e = e

or_rest : (a b c : Bool) → (a || b) ≡ true → (a || (b || c)) ≡ true
or_rest a b c e = grind (arith, nat_tests)

-- what a mask has with these entries it had, or one of them ends it
ended_by : (on n : ℕ) → 1 ≤ n → (entries : List Entry) (mask : ℕ) → ((c : ℕ) → list_any (ends c) entries ≡ true → is_change c ≡ true)
    → mask_contains (fold (with_ended on) mask entries) n ≡ true
    → (mask_contains mask n || list_any (ends n) entries) ≡ true
ended_by on n one [] mask all h = or_first (mask_contains mask n) false h
ended_by on n one (Started c devices timeout ∷ entries) mask all h = ended_by on n one entries mask all h
ended_by on n one (Decided c verdict ∷ entries) mask all h = ended_by on n one entries mask all h
ended_by on n one (Ended c kept ∷ entries) mask all h =
    let here : is_change c ≡ true = all c (or_first (nat_eq c c) (list_any (ends c) entries) (nat_itself c)) in
    either (mask_contains (with_if mask (mask_contains on c) c) n) (list_any (ends n) entries)
    ((mask_contains mask n || (nat_eq n c || list_any (ends n) entries)) ≡ true)
    (λ was. or_rest (mask_contains mask n) (nat_eq n c) (list_any (ends n) entries) (with_more mask c n here one (mask_contains on c) was))
    (λ later. or_second (mask_contains mask n) (nat_eq n c || list_any (ends n) entries)
    (or_second (nat_eq n c) (list_any (ends n) entries) later))
    (ended_by on n one entries (with_if mask (mask_contains on c) c)
    (λ k e. all k (or_second (nat_eq k c) (list_any (ends k) entries) e)) h)

none_first : (n : ℕ) → mask_contains 0 n ≡ false
unfolding mask_contains
none_first n = ap (λ b. b == 1) (bit_at-zero (n - 1))

pub only_ended : (device n : ℕ) (entries : List Entry) → ((c : ℕ) → is_ended_in c entries ≡ true → is_change c ≡ true) → 1 ≤ n
    → mask_contains (ended_on device entries) n ≡ true → is_ended_in n entries ≡ true
only_ended device n entries all one h =
    false_or (mask_contains 0 n) (list_any (ends n) entries) (none_first n) (ended_by (started_on device entries) n one entries 0 all h)

-- ---- entries come

ends_change : (c : ℕ) (entry : Entry) → has_record entry ≡ true → ends c entry ≡ true → is_change c ≡ true
ends_change c (Started other devices timeout) r e = absurd (let g : false ≡ true = e in cc)
ends_change c (Decided other verdict) r e = absurd (let g : false ≡ true = e in cc)
ends_change c (Ended other kept) r e = ap is_change (nat_same c other e) ∙ r

any_or : (test : Entry → Bool) (entries : List Entry) (entry : Entry) → list_any test (entries ++ entry ∷ []) ≡ true → (P : Type 0)
    → (list_any test entries ≡ true → P) → (test entry ≡ true → P) → P
any_or test entries entry e P before now =
    either (list_any test entries) (test entry || false) P before
    (λ h. either (test entry) false P now (λ g. absurd (let f : false ≡ true = g in cc)) h)
    (sym (list_any-append test entries (entry ∷ [])) ∙ e)

-- what is ended is a change set
pub numbered_next : (entries : List Entry) (entry : Entry) → may_follow entries entry ≡ true
    → ((c : ℕ) → is_ended_in c entries ≡ true → is_change c ≡ true) → (c : ℕ) → is_ended_in c (entries ++ entry ∷ []) ≡ true
    → is_change c ≡ true
numbered_next entries entry may all c e =
    any_or (ends c) entries entry e (is_change c ≡ true) (all c) (ends_change c entry (both (has_record entry) _ may).0)
