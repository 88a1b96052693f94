-- What each mark keeps of a line.
use Rattle.std.proofs.Common.{Option, Some, None, inl, inr, ◌≡◌, ◌≢◌, ◌⊎◌, ℕ, zero, suc, ◌+◌, ◌-◌, ◌<◌, ◌≤◌, ◌==◌, ◌&&◌, ◌||◌, Bool, true, false, not, nat_le, nat_lt, List, length, refl, sym, ap, ◌∙◌, subst, slice_index_or, slice_set, arith, if◌then◌else◌}
use Rattle.std.specs.Int.{w32}
use Rattle.std.specs.List.{sum_by}
use Rattle.std.proofs.lemmas.Bool.{cases_eq, cases_lt}
use Rattle.std.proofs.lemmas.Bool.Decides.{nat_tests}
use Rattle.std.proofs.lemmas.Nat.Bits.{bit_at-zero}
use Rattle.std.proofs.lemmas.List.{get_or-set_same, get_or-set_other, length-set}
use Rattle.std.proofs.lemmas.List.Sums.{sum_by-set}
use Rattle.nm_base.specs.Mask.{mask_contains, AddsToMask}
use Rattle.nm_base.proofs.Masks.{with_is}
use Rattle.nm_proto.specs.declared.journal.Verdict.{Verdict}
use Rattle.nm_proto.specs.declared.journal.Verdict.TheVariants.{Commit, Abort}
use Rattle.nm_chronicle.specs.declared.mark.Mark.{Mark}
use Rattle.nm_chronicle.specs.declared.mark.Mark.TheVariants.{Asked, Applied, Acked, Decided, Confirmed, Undone, Cancelled}
use Rattle.nm_chronicle.specs.Line.{LineState, LineHolds, Keeps, Takes, count_to, size, phase_of, is_undecided, is_commit, is_abort, with_device, line_if, when, is_next, was_asked, may_ack, may_decide, moved, taken, weight_of, phase_weight, verdict_weight, line_weight}

-- ---- counting devices

one_more : (b : Bool) (c n : ℕ) → c ≤ n → (if b then c + 1 else c) ≤ suc n
one_more true c n few = omega (arith, few)
one_more false c n few = omega (arith, few)

count_to-few : (mask n : ℕ) → count_to mask n ≤ n
count_to-few mask zero = omega arith
count_to-few mask (suc n) = one_more (mask_contains mask (suc n)) (count_to mask n) n (count_to-few mask n)

-- no more have acknowledged than there are devices
pub few_acked : (line : LineState) → LineHolds line → line.acked ≤ 32
unfolding size
few_acked line holds = let few = count_to-few line.acknowledged 32 in let same = holds.acked in omega (arith, few, same)

-- one that wasn't there counts once
counted_more : (old new n c d : ℕ) (here was : Bool) → here ≡ (was || (suc n == d)) → (suc n ≡ d → was ≡ false) → c + (if nat_le d n then 1 else 0) ≡ new → (if here then new + 1 else new) ≡ (if was then c + 1 else c) + (if nat_le d (suc n) then 1 else 0)
counted_more old new n c d here was e out before = elim (cases_eq (suc n) d) [
  | inl same ↦ let h = out same in grind (arith, nat_tests)
  | inr other ↦ grind (arith, nat_tests)
]

count_to-with : (old new d n : ℕ) → mask_contains old d ≡ false → AddsToMask old new d → 1 ≤ d → count_to old n + (if nat_le d n then 1 else 0) ≡ count_to new n
count_to-with old new d zero out adds low = grind (arith, nat_tests)
count_to-with old new d (suc n) out adds low =
    sym (counted_more old (count_to new n) n (count_to old n) d (mask_contains new (suc n)) (mask_contains old (suc n)) (adds (suc n) (omega arith)) (λ e. ap (mask_contains old) e ∙ out) (count_to-with old new d n out adds low))

count_once : (c new d n : ℕ) → d ≤ n → c + (if nat_le d n then 1 else 0) ≡ new → new ≡ c + 1
count_once c new d n le e = grind (arith, nat_tests)

-- ---- what stands where a mark was taken

if_some : (b : Bool) (x y : LineState) → line_if b x ≡ Some y → (b ≡ true) × (x ≡ y)
if_some true x y e = (refl, cc)
if_some false x y e = cc

when_some : (b : Bool) (x : Option LineState) (y : LineState) → when b x ≡ Some y → (b ≡ true) × (x ≡ Some y)
when_some true x y e = (refl, e)
when_some false x y e = cc

both : (a b : Bool) → (a && b) ≡ true → (a ≡ true) × (b ≡ true)
both true b e = (refl, e)
both false b e = cc

not_true : (b : Bool) → not b ≡ true → b ≡ false
not_true true e = cc
not_true false e = refl

same_if : (n m : ℕ) → (n == m) ≡ true → n ≡ m
same_if n m e = grind (arith, nat_tests)

at_least : (n m : ℕ) → nat_le n m ≡ true → n ≤ m
at_least n m e = grind (arith, nat_tests)

or_other : (was : Bool) (e d : ℕ) → e ≢ d → (was || (e == d)) ≡ true → was ≡ true
or_other was e d other is = grind (arith, nat_tests)

undecided_commit : (verdict : Option Verdict) → is_undecided verdict ≡ true → is_commit verdict ≡ true → ⊥
undecided_commit None open_ commit = cc
undecided_commit (Some verdict) open_ commit = cc

undecided_abort : (verdict : Option Verdict) → is_undecided verdict ≡ true → is_abort verdict ≡ true → ⊥
undecided_abort None open_ commit = cc
undecided_abort (Some verdict) open_ commit = cc

undecided_weight : (verdict : Option Verdict) → is_undecided verdict ≡ true → verdict_weight verdict ≡ 0
undecided_weight None open_ = refl
undecided_weight (Some verdict) open_ = cc

commit_acked : (line : LineState) (verdict : Verdict) → may_decide line verdict ≡ true → is_commit (Some verdict) ≡ true → line.acked ≡ size line.devices
commit_acked line Commit may commit = same_if line.acked (size line.devices) may
commit_acked line (Abort cause) may commit = cc

both_ways : (b : Bool) → b ≡ true → b ≡ false → ⊥
both_ways b is isnt = cc

less : (n m : ℕ) → nat_lt n m ≡ true → n < m
less n m e = grind (arith, nat_tests)

one_not_zero : (n : ℕ) → n ≡ 1 → n ≡ 0 → ⊥
one_not_zero n one none = absurd (omega (arith, one, none))

-- ---- marks that move no phase

keeps-ask : (line : LineState) (d : ℕ) → LineHolds line → Keeps true line (record line { asked = line.asked + 1 }) (Asked d)
keeps-ask line d h = record {
  holds = record {
    acked = h.acked;
    applied_first = h.applied_first;
    all_acked = h.all_acked;
    confirmed = h.confirmed;
    cancelled = h.cancelled;
    in_order = λ e pos less. h.in_order e pos (omega (arith, less));
    its_own = h.its_own;
  };
  devices = refl;
  phases = refl;
  counts = λ _. omega arith;
}

-- a device that acknowledges
keeps-ack : (line : LineState) (d : ℕ) → 1 ≤ d → d ≤ 32 → LineHolds line → is_undecided line.verdict ≡ true → may_ack line d ≡ true → Keeps true line (record line { acked = line.acked + 1; acknowledged = with_device line.acknowledged d }) (Acked d)
unfolding with_device size
keeps-ack line d low high h open_ may =
    let parts = both (nat_le 1 (phase_of line d)) (not (mask_contains line.acknowledged d)) may in
    let out : mask_contains line.acknowledged d ≡ false = not_true (mask_contains line.acknowledged d) parts.1 in
    let adds : AddsToMask line.acknowledged (with_device line.acknowledged d) d = with_is w32 line.acknowledged (d - 1) d refl low (omega arith) in
    let more = count_to-with line.acknowledged (with_device line.acknowledged d) d 32 out adds low in
    let one = count_once (size line.acknowledged) (size (with_device line.acknowledged d)) d 32 high more in
    record {
      holds = record {
        acked = ap (λ n. n + 1) h.acked ∙ sym one;
        applied_first = λ e pos there. elim (cases_eq e d) [
          | inl same ↦ subst (λ n. 1 ≤ phase_of line n) (sym same) (at_least 1 (phase_of line d) parts.0)
          | inr other ↦ h.applied_first e pos (or_other (mask_contains line.acknowledged e) e d other (sym (adds e pos) ∙ there))
        ];
        all_acked = λ commit. absurd (undecided_commit line.verdict open_ commit);
        confirmed = h.confirmed;
        cancelled = h.cancelled;
        in_order = h.in_order;
        its_own = h.its_own;
      };
      devices = refl;
      phases = refl;
      counts = λ _. omega arith;
    }

-- a verdict
keeps-decide : (line : LineState) (verdict : Verdict) → LineHolds line → is_undecided line.verdict ≡ true → may_decide line verdict ≡ true → Keeps true line (record line { verdict = Some verdict }) (Decided verdict)
keeps-decide line verdict h open_ may = record {
  holds = record {
    acked = h.acked;
    applied_first = h.applied_first;
    all_acked = commit_acked line verdict may;
    confirmed = λ e pos is. absurd (undecided_commit line.verdict open_ (h.confirmed e pos is));
    cancelled = λ e pos is. absurd (undecided_abort line.verdict open_ (h.cancelled e pos is));
    in_order = h.in_order;
    its_own = h.its_own;
  };
  devices = refl;
  phases = refl;
  counts = λ _. let w = undecided_weight line.verdict open_ in omega (arith, w);
}

-- ---- marks that move one

-- a device of the run, after one of them goes to another phase
moved_phase : (line : LineState) (d to e : ℕ) → 1 ≤ d → 0 < e → d - 1 < length line.phases
    → ((e ≡ d) × (slice_index_or (slice_set line.phases (d - 1) to) (e - 1) 0 ≡ to)) ⊎ (slice_index_or (slice_set line.phases (d - 1) to) (e - 1) 0 ≡ phase_of line e)
moved_phase line d to e low pos within = elim (cases_eq e d) [
  | inl same ↦ inl (same, ap (λ n. slice_index_or (slice_set line.phases (d - 1) to) (n - 1) 0) same ∙ get_or-set_same line.phases (d - 1) to 0 within)
  | inr other ↦ inr (get_or-set_other line.phases (d - 1) (e - 1) to 0 (λ e. other (omega (arith, e))))
]

-- why a device may go from a phase to another
record MayGo (line : LineState) (d from to : ℕ) : Type 0 where
  low : 1 ≤ d
  within : d - 1 < length line.phases
  is_in : phase_of line d ≡ from
  some : 1 ≤ to
  more : phase_weight to ≡ phase_weight from + 1
  confirms : to ≡ 2 → is_commit line.verdict ≡ true
  cancels : to ≡ 4 → is_abort line.verdict ≡ true
  asked : line.asked < count_to line.devices d → ⊥
  own : mask_contains line.devices d ≡ false → ⊥

keeps-go : (line : LineState) (d from to : ℕ) (mark : Mark) → weight_of mark ≡ 1 → LineHolds line → MayGo line d from to → Keeps true line (record line { phases = slice_set line.phases (d - 1) to }) mark
keeps-go line d from to mark once h may = record {
  holds = record {
    acked = h.acked;
    applied_first = λ e pos there. elim (moved_phase line d to e may.low pos may.within) [
      | inl it ↦ subst (λ n. 1 ≤ n) (sym it.1) may.some
      | inr same ↦ subst (λ n. 1 ≤ n) (sym same) (h.applied_first e pos there)
    ];
    all_acked = h.all_acked;
    confirmed = λ e pos is. elim (moved_phase line d to e may.low pos may.within) [
      | inl it ↦ may.confirms (sym it.1 ∙ is)
      | inr same ↦ h.confirmed e pos (sym same ∙ is)
    ];
    cancelled = λ e pos is. elim (moved_phase line d to e may.low pos may.within) [
      | inl it ↦ may.cancels (sym it.1 ∙ is)
      | inr same ↦ h.cancelled e pos (sym same ∙ is)
    ];
    in_order = λ e pos less. elim (moved_phase line d to e may.low pos may.within) [
      | inl it ↦ absurd (may.asked (subst (λ n. line.asked < count_to line.devices n) it.0 less))
      | inr same ↦ same ∙ h.in_order e pos less
    ];
    its_own = λ e pos out. elim (moved_phase line d to e may.low pos may.within) [
      | inl it ↦ absurd (may.own (ap (mask_contains line.devices) (sym it.0) ∙ out))
      | inr same ↦ same ∙ h.its_own e pos out
    ];
  };
  devices = refl;
  phases = length-set line.phases (d - 1) to;
  counts = λ _.
      let sums = sum_by-set phase_weight line.phases (d - 1) to 0 may.within in
      let was : phase_weight (phase_of line d) ≡ phase_weight from = ap phase_weight may.is_in in
      let more = may.more in
      omega (arith, sums, was, more, once);
}

-- what stands where a device was moved
record Moved (line after : LineState) (d from to : ℕ) : Type 0 where
  within : d - 1 < length line.phases
  is_in : phase_of line d ≡ from
  after_is : record line { phases = slice_set line.phases (d - 1) to } ≡ after

moved_some : (line after : LineState) (d from to : ℕ) → moved line d from to ≡ Some after → Moved line after d from to
moved_some line after d from to e =
    let it = if_some (nat_lt (d - 1) (length line.phases) && (phase_of line d == from)) (record line { phases = slice_set line.phases (d - 1) to }) after e in
    let parts = both (nat_lt (d - 1) (length line.phases)) (phase_of line d == from) it.0 in
    record { within = less (d - 1) (length line.phases) parts.0; is_in = same_if (phase_of line d) from parts.1; after_is = it.1 }

-- from phase 1 on: the device was asked and is of the change set
goes : (line after : LineState) (d to : ℕ) (mark : Mark) → weight_of mark ≡ 1 → 1 ≤ d → LineHolds line → moved line d 1 to ≡ Some after
    → phase_weight to ≡ 2 → 1 ≤ to → (to ≡ 2 → is_commit line.verdict ≡ true) → (to ≡ 4 → is_abort line.verdict ≡ true) → Keeps true line after mark
goes line after d to mark once low h e more some confirms cancels =
    let it = moved_some line after d 1 to e in
    let may : MayGo line d 1 to = record {
      low = low;
      within = it.within;
      is_in = it.is_in;
      some = some;
      more = more;
      confirms = confirms;
      cancels = cancels;
      asked = λ less. one_not_zero (phase_of line d) it.is_in (h.in_order d low less);
      own = λ out. one_not_zero (phase_of line d) it.is_in (h.its_own d low out);
    } in
    subst (λ x. Keeps true line x mark) it.after_is (keeps-go line d 1 to mark once h may)

applies : (line after : LineState) (d : ℕ) → 1 ≤ d → LineHolds line → taken line (Applied d) ≡ Some after → Keeps true line after (Applied d)
applies line after d low h e =
    let outer = when_some (was_asked line d) (moved line d 0 1) after e in
    let was = both (mask_contains line.devices d) (nat_le (count_to line.devices d) line.asked) outer.0 in
    let it = moved_some line after d 0 1 outer.1 in
    let may : MayGo line d 0 1 = record {
      low = low;
      within = it.within;
      is_in = it.is_in;
      some = omega arith;
      more = refl;
      confirms = λ e. absurd (omega (arith, e));
      cancels = λ e. absurd (omega (arith, e));
      asked = λ less. let le = at_least (count_to line.devices d) line.asked was.1 in absurd (omega (arith, less, le));
      own = λ out. both_ways (mask_contains line.devices d) was.0 out;
    } in
    subst (λ x. Keeps true line x (Applied d)) it.after_is (keeps-go line d 0 1 (Applied d) refl h may)

-- ---- all marks

-- the device of a mark is one that may be in a run
abbrev pub Fits : Mark → Type 0
Fits (Asked d) = (1 ≤ d) × (d ≤ 32)
Fits (Applied d) = (1 ≤ d) × (d ≤ 32)
Fits (Acked d) = (1 ≤ d) × (d ≤ 32)
Fits (Decided verdict) = Unit {0}
Fits (Confirmed d) = (1 ≤ d) × (d ≤ 32)
Fits (Undone d) = (1 ≤ d) × (d ≤ 32)
Fits (Cancelled d) = (1 ≤ d) × (d ≤ 32)

keeps_some : (line after : LineState) (mark : Mark) → Fits mark → LineHolds line → taken line mark ≡ Some after → Keeps true line after mark
keeps_some line after (Asked d) fits h e =
    let it = if_some (is_undecided line.verdict && is_next line d) (record line { asked = line.asked + 1 }) after e in
    subst (λ x. Keeps true line x (Asked d)) it.1 (keeps-ask line d h)
keeps_some line after (Applied d) fits h e = applies line after d fits.0 h e
keeps_some line after (Acked d) fits h e =
    let it = if_some (is_undecided line.verdict && may_ack line d) (record line { acked = line.acked + 1; acknowledged = with_device line.acknowledged d }) after e in
    let parts = both (is_undecided line.verdict) (may_ack line d) it.0 in
    subst (λ x. Keeps true line x (Acked d)) it.1 (keeps-ack line d fits.0 fits.1 h parts.0 parts.1)
keeps_some line after (Decided verdict) fits h e =
    let it = if_some (is_undecided line.verdict && may_decide line verdict) (record line { verdict = Some verdict }) after e in
    let parts = both (is_undecided line.verdict) (may_decide line verdict) it.0 in
    subst (λ x. Keeps true line x (Decided verdict)) it.1 (keeps-decide line verdict h parts.0 parts.1)
keeps_some line after (Confirmed d) fits h e =
    let outer = when_some (is_commit line.verdict) (moved line d 1 2) after e in
    goes line after d 2 (Confirmed d) refl fits.0 h outer.1 refl (omega arith) (λ _. outer.0) (λ e. absurd (omega (arith, e)))
keeps_some line after (Undone d) fits h e = goes line after d 3 (Undone d) refl fits.0 h e refl (omega arith) (λ e. absurd (omega (arith, e))) (λ e. absurd (omega (arith, e)))
keeps_some line after (Cancelled d) fits h e =
    let outer = when_some (is_abort line.verdict) (moved line d 1 4) after e in
    goes line after d 4 (Cancelled d) refl fits.0 h outer.1 refl (omega arith) (λ e. absurd (omega (arith, e))) (λ _. outer.0)

same_keeps : (line new : LineState) (mark : Mark) (took : Bool) → took ≡ false → new ≡ line → LineHolds line → Keeps took line new mark
same_keeps line new mark took none same h = record {
  holds = subst LineHolds (sym same) h;
  devices = ap (λ l. l.devices) same;
  phases = ap (λ l. length l.phases) same;
  counts = λ is. absurd (both_ways took is none);
}

keeps_by : (line new : LineState) (mark : Mark) (took : Bool) (after : Option LineState) → taken line mark ≡ after → Fits mark → LineHolds line → Takes took line new after → Keeps took line new mark
keeps_by line new mark took None e fits h takes = same_keeps line new mark took takes.0 takes.1 h
keeps_by line new mark took (Some after) e fits h takes =
    subst (λ b. Keeps b line new mark) (sym takes.0) (subst (λ x. Keeps true line x mark) (sym takes.1) (keeps_some line after mark fits h e))

pub keeps : (line new : LineState) (mark : Mark) (took : Bool) → Fits mark → LineHolds line → Takes took line new (taken line mark) → Keeps took line new mark
keeps line new mark took fits h takes = keeps_by line new mark took (taken line mark) refl fits h takes
