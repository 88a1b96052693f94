-- Where blanks end, and what digits make.
use Rattle.std.proofs.Common.{◌≡◌, ℕ, ◌+◌, ◌-◌, ◌*◌, ◌^◌, List, ◌≤◌, ◌<◌, length, take, drop, Option, Some, None, Bool, true, false, cond, suc, arith, refl, ap, sym, ◌∙◌}
use Rattle.std.specs.Prelude.{nat_lt, not}
use Rattle.std.specs.Option.{unwrap_or}
use Rattle.std.specs.List.{position_or_len}
use Rattle.std.proofs.lemmas.Bool.Decides.{nat_tests}
use Rattle.std.proofs.lemmas.List.Sums.{prefix_len-le-length}
use Rattle.nm_schema_derive.specs.Blank.{is_solid}
use Rattle.std.proofs.lemmas.List.{take_all, length-drop}
use Rattle.nm_base.specs.Decimal.{number_of as digits_of}
use Rattle.nm_schema_derive.specs.Form.{is_point, moved, moved_if, pointed_of, scaled_of}

place_is : (p n : ℕ) → p ≤ n → unwrap_or (cond (nat_lt p n) (Some p) None) n ≡ p
place_is p n h = grind (arith, nat_tests)

-- the place of the first solid byte, or the length
pub first_solid : (xs : List ℕ) (r : ℕ) (o : Option ℕ) → o ≡ cond (nat_lt (position_or_len is_solid xs) (length xs)) (Some (position_or_len is_solid xs)) None → r ≡ unwrap_or o (length xs) → r ≡ position_or_len is_solid xs
first_solid xs r o p e = e ∙ ap (λ o. unwrap_or o (length xs)) p ∙ place_is (position_or_len is_solid xs) (length xs) (prefix_len-le-length (λ b. not (is_solid b)) xs)

-- one place further
moved-suc : (places n : ℕ) → n * 10 < 2 ^ 64 → moved (suc places) n ≡ moved places (n * 10)
moved-suc places n h = grind (arith, nat_tests)

pub moved-step : (places i n : ℕ) → i < places → n * 10 < 2 ^ 64 → moved (places - (i + 1)) (n * 10) ≡ moved (places - i) n
moved-step places i n l h =
    let e : places - i ≡ suc (places - (i + 1)) = omega arith in
    sym (ap (λ k. moved k n) e ∙ moved-suc (places - (i + 1)) n h)

moved-none : (places n : ℕ) → 2 ^ 64 ≤ n * 10 → moved (suc places) n ≡ None
moved-none places n h = grind (arith, nat_tests)

pub moved-stops : (places i n : ℕ) → i < places → 2 ^ 64 ≤ n * 10 → moved (places - i) n ≡ None
moved-stops places i n l h =
    let e : places - i ≡ suc (places - (i + 1)) = omega arith in
    ap (λ k. moved k n) e ∙ moved-none (places - (i + 1)) n h

-- ---- digits around a point

rest_of : (i : ℕ) (xs : List ℕ) → take (length xs - i) (drop i xs) ≡ drop i xs
rest_of i xs = take_all (length xs - i) (drop i xs) (omega (arith, length-drop i xs))

found : (p n i : ℕ) (t : Bool) → Some i ≡ cond t (Some p) None → (t ≡ true) × (i ≡ p)
found p n i true e = (refl, cc)
found p n i false e = cc

missed : (p : ℕ) (t : Bool) → None ≡ cond t (Some p) None → t ≡ false
missed p true e = cc
missed p false e = refl

pub at_point : (digits d i : ℕ) (text : List ℕ) → d ≡ digits → nat_lt 18 digits ≡ false → Some i ≡ cond (nat_lt (position_or_len is_point text) (length text)) (Some (position_or_len is_point text)) None → pointed_of d (take i text) (take (length text - (i + 1)) (drop (i + 1) text)) ≡ scaled_of digits text
unfolding scaled_of
at_point digits d i text e few at =
    let place = found (position_or_len is_point text) (length text) i (nat_lt (position_or_len is_point text) (length text)) at in
    ap (λ (k : ℕ). pointed_of k (take i text) (take (length text - (i + 1)) (drop (i + 1) text))) e
    ∙ ap (pointed_of digits (take i text)) (rest_of (i + 1) text)
    ∙ ap (λ (k : ℕ). pointed_of digits (take k text) (drop (k + 1) text)) place.1
    ∙ rw (few, place.0) refl

pub without_point : (digits d : ℕ) (text : List ℕ) → d ≡ digits → nat_lt 18 digits ≡ false → None ≡ cond (nat_lt (position_or_len is_point text) (length text)) (Some (position_or_len is_point text)) None → moved_if d (digits_of text) ≡ scaled_of digits text
unfolding scaled_of
without_point digits d text e few at =
    let none = missed (position_or_len is_point text) (nat_lt (position_or_len is_point text) (length text)) at in
    ap (λ (k : ℕ). moved_if k (digits_of text)) e ∙ rw (few, none) refl
