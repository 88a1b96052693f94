-- The mask of those that have kept a change set, bit by bit.
use Rattle.std.proofs.Common.{◌≡◌, ◌∙◌, ℕ, zero, suc, ◌+◌, ◌-◌, ◌*◌, ◌%◌, ◌^◌, ◌<◌, ◌≤◌, ◌==◌, Bool, true, false, ◌||◌, ◌&&◌, cond, List, [], ◌∷◌, length, bit_or, slice_get, Some, None, refl, ap, arith}
use Rattle.std.specs.Int.{w32}
use Rattle.std.proofs.lemmas.Nat.Bits.{bit_at-zero}
use Rattle.std.proofs.lemmas.Bool.Decides.{nat_tests}
use Rattle.nm_base.specs.Mask.{mask_contains}
use Rattle.nm_base.proofs.Masks.{with_is}
use Rattle.nm_decider_stage.specs.Stages.{has_kept}
use Rattle.nm_decider.specs.declared.seat.Seat.{Seat}
use Rattle.nm_decider.specs.Course.{kept_from}

empty_mask : (d : ℕ) → mask_contains 0 d ≡ false
unfolding mask_contains
empty_mask d = ap (λ b. b == 1) (bit_at-zero (d - 1))

-- one more bit, or none
one_more : (b : Bool) (mask place d : ℕ) → 0 < d → place < 32
    → mask_contains (cond b (bit_or mask (1 * 2 ^ place % 2 ^ 32)) mask) d ≡ (mask_contains mask d || (b && d == place + 1))
one_more true mask place d h within = with_is w32 mask place (place + 1) (omega arith) (omega arith) within d h
one_more false mask place d h within = or_false (mask_contains mask d) where
  or_false : (b : Bool) → b ≡ (b || false)
  or_false true = refl
  or_false false = refl

other_number : (d n : ℕ) → d < n → (d == n) ≡ false
other_number d n h = grind (arith, nat_tests)

later_number : (d n : ℕ) → n < d → (d == n) ≡ false
later_number d n h = grind (arith, nat_tests)

same_number : (d n : ℕ) → d ≡ n → (d == n) ≡ true
same_number d n h = grind (arith, nat_tests)

without : (a b c : Bool) → a ≡ false → c ≡ false → (a || (b && c)) ≡ false
without true b c h k = absurd (let e : true ≡ false = h in cc)
without false true c h k = k
without false false c h k = refl

only : (a b c : Bool) → a ≡ false → c ≡ true → (a || (b && c)) ≡ b
only true b c h k = absurd (let e : true ≡ false = h in cc)
only false true c h k = k
only false false c h k = refl

but : (a b c : Bool) → c ≡ false → (a || (b && c)) ≡ a
but true b c k = refl
but false true c k = k
but false false c k = refl

-- no bit stands for a device before the first
before_first : (seats : List Seat) (place d : ℕ) → 0 < d → d ≤ place → place + length seats ≤ 32 → mask_contains (kept_from place seats) d ≡ false
before_first [] place d h low within = empty_mask d
before_first (seat ∷ seats) place d h low within =
    one_more (seat.is_member && has_kept seat.stage) (kept_from (place + 1) seats) place d h (omega arith)
    ∙ without (mask_contains (kept_from (place + 1) seats) d) (seat.is_member && has_kept seat.stage) (d == place + 1)
    (before_first seats (place + 1) d h (omega arith) (omega arith)) (other_number d (place + 1) (omega arith))

-- the bit of each device
pub kept_bit : (seats : List Seat) (place k d : ℕ) (found : Seat) → slice_get seats k ≡ Some found → place + length seats ≤ 32 → d ≡ place + k + 1
    → mask_contains (kept_from place seats) d ≡ (found.is_member && has_kept found.stage)
kept_bit [] place k d found h within e = absurd (let g : None ≡ Some found = h in cc)
kept_bit (seat ∷ seats) place zero d found h within e =
    let same : seat ≡ found = cc in
    one_more (seat.is_member && has_kept seat.stage) (kept_from (place + 1) seats) place d (omega (arith, e)) (omega arith)
    ∙ only (mask_contains (kept_from (place + 1) seats) d) (seat.is_member && has_kept seat.stage) (d == place + 1)
    (before_first seats (place + 1) d (omega (arith, e)) (omega (arith, e)) (omega arith)) (same_number d (place + 1) (omega (arith, e)))
    ∙ ap (λ s. s.is_member && has_kept s.stage) same
kept_bit (seat ∷ seats) place (suc k) d found h within e =
    one_more (seat.is_member && has_kept seat.stage) (kept_from (place + 1) seats) place d (omega (arith, e)) (omega arith)
    ∙ but (mask_contains (kept_from (place + 1) seats) d) (seat.is_member && has_kept seat.stage) (d == place + 1) (later_number d (place + 1) (omega (arith, e)))
    ∙ kept_bit seats (place + 1) k d found h (omega arith) (omega (arith, e))
