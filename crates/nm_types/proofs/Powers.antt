-- Numbers of digits, and what the digits past the fraction digits are.
use Rattle.std.proofs.Common.{◌≡◌, ℕ, zero, suc, ◌<◌, ◌≤◌, ◌+◌, ◌-◌, ◌*◌, ◌^◌, ◌/◌, true, List, [], ◌∷◌, ◌++◌, length, take, drop, ap, refl, sym, ◌∙◌, arith, inl, inr, append_assoc, length-drop}
use Rattle.std.specs.Prelude.{◌==◌}
use Rattle.std.specs.List.{list_all}
use Rattle.std.specs.Char.{digit_value}
use Rattle.std.specs.Str.Parse.{AllDigits, digits_value, digits_value_after}
use Rattle.std.proofs.lemmas.Int.Digits.{digits_value-lt}
use Rattle.std.proofs.lemmas.Str.Parse.{digit_from_value}
use Rattle.std.proofs.lemmas.Str.{digit_value_digit}
use Rattle.std.proofs.lemmas.List.{take_all, drop_all, take-append-drop}
use Rattle.std.proofs.lemmas.Bool.{cases_lt}
use Rattle.std.proofs.lemmas.Nat.{pow-add}
use Rattle.std.proofs.Math.Nat.{mul_assoc, pow-suc, mul-le-mul_right, mul-div_cancel, le-mul_of_pos_right}
use borrow.Author.Tests.{eqb-true, eq-eqb}
use Rattle.nm_types.proofs.Decimals.{and_parts, pow-pos, digits_value_after-append}

AllDigits-drop : (n : ℕ) (ds : List ℕ) → AllDigits 10 ds → AllDigits 10 (drop n ds)
AllDigits-drop zero ds h = h
AllDigits-drop (suc n) [] h = tt
AllDigits-drop (suc n) (d ∷ ds) h = AllDigits-drop n ds h.1

-- the number of digits behind a number
pub value-after : (n : ℕ) (ds : List ℕ) → digits_value_after 10 n ds ≡ n * 10 ^ length ds + digits_value 10 ds
value-after n [] = omega arith
value-after n (d ∷ ds) =
    let p : 10 ^ length (d ∷ ds) ≡ 10 ^ length ds * 10 = pow-suc 10 (length ds) in
    let a = value-after (n * 10 + digit_value d) ds in
    let b = value-after (0 * 10 + digit_value d) ds in
    let q : n * (10 ^ length ds * 10) ≡ n * 10 * 10 ^ length ds = omega arith in
    rw p (omega (arith, a, b, q))

pub value-zeros : (ds : List ℕ) → list_all (λ b. b == 48) ds ≡ true → digits_value 10 ds ≡ 0
value-zeros [] e = refl
value-zeros (d ∷ ds) e =
    let p = and_parts (d == 48) (list_all (λ b. b == 48) ds) e in
    let f : d ≡ 48 = eqb-true d 48 p.0 in
    rw f (value-zeros ds p.1)

pub zeros-value : (ds : List ℕ) → AllDigits 10 ds → digits_value 10 ds ≡ 0 → list_all (λ b. b == 48) ds ≡ true
zeros-value [] h e = refl
zeros-value (d ∷ ds) h e =
    let a : digits_value_after 10 (0 * 10 + digit_value d) ds ≡ (0 * 10 + digit_value d) * 10 ^ length ds + digits_value 10 ds = value-after (0 * 10 + digit_value d) ds in
    let b : digit_value d ≤ digit_value d * 10 ^ length ds = le-mul_of_pos_right (digit_value d) (pow-pos (length ds)) in
    let z : digit_value d ≡ 0 = omega (arith, a, b, e) in
    let v : digits_value 10 ds ≡ 0 = omega (arith, a, b, e) in
    let f : d ≡ 48 = omega (arith, z, digit_value_digit d (digit_from_value d h.0)) in
    let t : (d == 48) ≡ true = eq-eqb d 48 f in
    rw t (zeros-value ds h.1 v)

pub cancel : (a b p : ℕ) → 0 < p → a * p ≡ b * p → a ≡ b
cancel a b p h e = sym (mul-div_cancel a h) ∙ ap (λ (n : ℕ). n / p) e ∙ mul-div_cancel b h

-- a number and a remainder below p make a multiple of p only where there is no remainder
no-remainder : (w r m p : ℕ) → r < p → w * p + r ≡ m * p → (w ≡ m) × (r ≡ 0)
no-remainder w r m p h e = elim (cases_lt w m) [
  | inl lt ↦ (let a : (w + 1) * p ≤ m * p = mul-le-mul_right p (omega arith) in absurd (omega (arith, a, e, h)))
  | inr ge ↦ elim (cases_lt m w) [
    | inl gt ↦ (let a : (m + 1) * p ≤ w * p = mul-le-mul_right p (omega arith) in absurd (omega (arith, a, e, h)))
    | inr le ↦ (let s : w ≡ m = omega arith in (s, (let t : w * p ≡ m * p = ap (λ (n : ℕ). n * p) s in omega (arith, e, t))))
  ]
]

module _ (d : ℕ) (whole part : List ℕ) where
  number-split : digits_value 10 (whole ++ part) ≡ digits_value 10 (whole ++ take d part) * 10 ^ length (drop d part) + digits_value 10 (drop d part)
  number-split =
      let e : whole ++ part ≡ (whole ++ take d part) ++ drop d part = ap (λ (l : List ℕ). whole ++ l) (sym (take-append-drop d part)) ∙ sym (append_assoc whole (take d part) (drop d part)) in
      ap (digits_value 10) e ∙ digits_value_after-append 0 (whole ++ take d part) (drop d part) ∙ value-after (digits_value 10 (whole ++ take d part)) (drop d part)

  -- what the function computes is the scaled value
  pub scaled-sound : list_all (λ b. b == 48) (drop d part) ≡ true → digits_value 10 (whole ++ part) * 10 ^ d ≡ digits_value 10 (whole ++ take d part) * 10 ^ (d - length part) * 10 ^ length part
  scaled-sound z =
      let w = digits_value 10 (whole ++ take d part) in
      let v : digits_value 10 (whole ++ part) ≡ w * 10 ^ length (drop d part) = omega (arith, number-split, value-zeros (drop d part) z) in
      let k : length (drop d part) + d ≡ d - length part + length part = omega (arith, length-drop d part) in
      ap (λ (n : ℕ). n * 10 ^ d) v ∙ mul_assoc w (10 ^ length (drop d part)) (10 ^ d) ∙ ap (λ (n : ℕ). w * n) (sym (pow-add 10 (length (drop d part)) d) ∙ ap (λ (n : ℕ). 10 ^ n) k ∙ pow-add 10 (d - length part) (length part)) ∙ sym (mul_assoc w (10 ^ (d - length part)) (10 ^ length part))

  -- the scaled value is what the function computes
  pub scaled-complete : (m : ℕ) → AllDigits 10 part → digits_value 10 (whole ++ part) * 10 ^ d ≡ m * 10 ^ length part → (list_all (λ b. b == 48) (drop d part) ≡ true) × (digits_value 10 (whole ++ take d part) * 10 ^ (d - length part) ≡ m)
  scaled-complete m h e = elim (cases_lt d (length part)) [ inl lt ↦ long lt | inr ge ↦ short ge ]
    where
      short : length part ≤ d → (list_all (λ b. b == 48) (drop d part) ≡ true) × (digits_value 10 (whole ++ take d part) * 10 ^ (d - length part) ≡ m)
      short ge =
          let none : drop d part ≡ [] = drop_all d part ge in
          let every : take d part ≡ part = take_all d part ge in
          let k : d - length part + length part ≡ d = omega arith in
          let w = digits_value 10 (whole ++ part) in
          let f : w * 10 ^ (d - length part) * 10 ^ length part ≡ m * 10 ^ length part =
          mul_assoc w (10 ^ (d - length part)) (10 ^ length part) ∙ ap (λ (n : ℕ). w * n) (sym (pow-add 10 (d - length part) (length part)) ∙ ap (λ (n : ℕ). 10 ^ n) k) ∙ e in
          (ap (list_all (λ b. b == 48)) none, ap (λ (l : List ℕ). digits_value 10 (whole ++ l) * 10 ^ (d - length part)) every ∙ cancel _ _ _ (pow-pos (length part)) f)

      long : d < length part → (list_all (λ b. b == 48) (drop d part) ≡ true) × (digits_value 10 (whole ++ take d part) * 10 ^ (d - length part) ≡ m)
      long lt =
          let k : length (drop d part) + d ≡ length part = omega (arith, length-drop d part) in
          let p = 10 ^ length (drop d part) in
          let f : digits_value 10 (whole ++ part) * 10 ^ d ≡ m * p * 10 ^ d =
          e ∙ ap (λ (n : ℕ). m * n) (ap (λ (n : ℕ). 10 ^ n) (sym k) ∙ pow-add 10 (length (drop d part)) d) ∙ sym (mul_assoc m p (10 ^ d)) in
          let g : digits_value 10 (whole ++ part) ≡ m * p = cancel _ _ _ (pow-pos d) f in
          let below : digits_value 10 (drop d part) < p = digits_value-lt 10 (drop d part) (AllDigits-drop d part h) in
          let r = no-remainder (digits_value 10 (whole ++ take d part)) (digits_value 10 (drop d part)) m p below (sym number-split ∙ g) in
          let none : d - length part ≡ 0 = omega arith in
          (zeros-value (drop d part) (AllDigits-drop d part h) r.1, ap (λ (n : ℕ). digits_value 10 (whole ++ take d part) * 10 ^ n) none ∙ omega (arith, r.0))
