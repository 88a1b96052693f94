-- Masks by their bits.
use Rattle.std.proofs.Common.{Option, Some, None, IfSome, inl, inr, ◌≡◌, ◌≢◌, ℕ, ◌+◌, ◌-◌, ◌*◌, ◌/◌, ◌%◌, ◌^◌, ◌<◌, ◌≤◌, ◌⊎◌, Bool, true, false, ◌||◌, ◌&&◌, not, refl, sym, ap, ◌∙◌, bit_and, bit_or, nat_eq, arith, rules, eq-eqb}
use Rattle.std.proofs.lemmas.Nat.{and_le_l}
use Rattle.std.proofs.lemmas.Nat.Bits.{shr_and_one, bit_at_set_same, bit_at_set_other, bit_at_clear_same, bit_at_clear_other, bit_at_above, bit_at-lt, bit_at-trailing_zeros}
use Rattle.std.proofs.lemmas.Bool.{cases_eq, cases_lt}
use Rattle.std.proofs.lemmas.Bool.Decides.{nat_tests}
use Rattle.std.specs.Int.{bit_at, bit_not, Width, trailing_zeros}
use mir.Val.{bits}
use Rattle.nm_base.specs.Mask.{mask_contains, AddsToMask, TakesFromMask, IsLeastInMask}

pub contains_is : (mask k d : ℕ) → k ≡ d - 1 → nat_eq (bit_and (mask / 2 ^ k) 1) 1 ≡ mask_contains mask d
unfolding mask_contains
contains_is mask k d e = ap (λ b. nat_eq b 1) (shr_and_one mask k ∙ ap (bit_at mask) e)

other_place : (k d m : ℕ) → k ≡ d - 1 → 1 ≤ d → 0 < m → m ≢ d → m - 1 ≢ k
other_place k d m e one pos other same = other (omega arith)

added : (new old m d : ℕ) → (m ≡ d → new ≡ 1) → (m ≢ d → new ≡ old) → nat_eq new 1 ≡ (nat_eq old 1 || nat_eq m d)
added new old m d same other = elim (cases_eq m d) [
  | inl e ↦ let h = same e in grind (arith, nat_tests)
  | inr n ↦ let h = other n in grind (arith, nat_tests)
]

taken : (new old m d : ℕ) → (m ≡ d → new ≡ 0) → (m ≢ d → new ≡ old) → nat_eq new 1 ≡ (nat_eq old 1 && not (nat_eq m d))
taken new old m d same other = elim (cases_eq m d) [
  | inl e ↦ let h = same e in grind (arith, nat_tests)
  | inr n ↦ let h = other n in grind (arith, nat_tests)
]

pub with_is : (w : Width) (mask k d : ℕ) → k ≡ d - 1 → 1 ≤ d → k < bits w → AddsToMask mask (bit_or mask (1 * 2 ^ k % 2 ^ bits w)) d
unfolding mask_contains
with_is w mask k d e one within m pos =
    let new = bit_or mask (1 * 2 ^ k % 2 ^ bits w) in
    added (bit_at new (m - 1)) (bit_at mask (m - 1)) m d
    (λ h. ap (bit_at new) (ap (λ n. n - 1) h ∙ sym e) ∙ bit_at_set_same w mask k within)
    (λ h. bit_at_set_other w mask k within (m - 1) (other_place k d m e one pos h))

pub without_is : (w : Width) (mask k d : ℕ) → k ≡ d - 1 → 1 ≤ d → k < bits w → mask < 2 ^ bits w → TakesFromMask mask (bit_and mask (bit_not w (1 * 2 ^ k % 2 ^ bits w))) d
unfolding mask_contains
without_is w mask k d e one within fits m pos =
    let new = bit_and mask (bit_not w (1 * 2 ^ k % 2 ^ bits w)) in
    let less : new < 2 ^ bits w = omega (arith, and_le_l mask (bit_not w (1 * 2 ^ k % 2 ^ bits w))) in
    taken (bit_at new (m - 1)) (bit_at mask (m - 1)) m d
    (λ h. ap (bit_at new) (ap (λ n. n - 1) h ∙ sym e) ∙ bit_at_clear_same w mask k within)
    (λ h. elim (cases_lt (m - 1) (bits w)) [
      | inl lt ↦ bit_at_clear_other w mask k within (m - 1) lt (other_place k d m e one pos h)
      | inr ge ↦ bit_at_above new (bits w) (m - 1) less ge ∙ sym (bit_at_above mask (bits w) (m - 1) fits ge)
    ])

pub first_is : (w : Width) (mask n : ℕ) → mask ≢ 0 → mask < 2 ^ bits w → n ≡ trailing_zeros w mask + 1 → IsLeastInMask mask n
unfolding mask_contains
first_is w mask n some fits e =
    let lowest = bit_at-trailing_zeros w mask (omega arith) fits in
    let place : n - 1 ≡ trailing_zeros w mask = omega arith in
    record {
      there = eq-eqb (bit_at mask (n - 1)) 1 (ap (bit_at mask) place ∙ lowest.1);
      least = λ m pos less. let zero : bit_at mask (m - 1) ≡ 0 = lowest.2 (m - 1) (omega arith) in grind (arith, nat_tests);
    }

pub least_if : (w : Width) (mask n : ℕ) (found : Option ℕ) → mask ≢ 0 → mask < 2 ^ bits w → n ≡ trailing_zeros w mask + 1 → IfSome found (λ d. d ≡ n) → IfSome found (IsLeastInMask mask)
least_if w mask n None some fits e h = tt
least_if w mask n (Some d) some fits e h = first_is w mask d some fits (h ∙ e)
