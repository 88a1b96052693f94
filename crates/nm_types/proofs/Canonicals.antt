-- Canonical texts of numbers are spellings of them.
use Rattle.std.proofs.Common.{◌≡◌, ℕ, zero, suc, ◌<◌, ◌≤◌, ◌+◌, ◌-◌, ◌*◌, ◌^◌, false, List, [], ◌∷◌, ◌++◌, length, ℤ, pos, negsuc, FitsSigned, ltb, ap, refl, sym, ◌∙◌, subst, arith, inl, inr, lit<, append_assoc, length-append, length-drop, length-take}
use Rattle.std.specs.Prelude.{◌==◌, neg_ℤ, unsigned_abs, replicate}
use Rattle.std.specs.Int.{w64, w128}
use Rattle.std.specs.Fmt.{decimal, signed_decimal}
use Rattle.std.specs.Str.Parse.{AllDigits, IsNumeral, digits_value, digits_value_after}
use Rattle.std.proofs.lemmas.Fmt.{decimal_is_IsNumeral_wide}
use Rattle.std.proofs.lemmas.List.{take-append-drop, append-nil, length-replicate}
use Rattle.std.proofs.lemmas.Bool.{cases_Bool, false_from_ne_true}
use Rattle.std.proofs.Math.Nat.{mul_assoc, pow-suc}
use borrow.Author.Tests.{eqb-true, ltb-true}
use Rattle.nm_types.specs.Spells.{IsSigned, unsigned, minus as minus_sign, pointed, SpellsInteger, SpellsDecimal}
use Rattle.nm_types.specs.Canonical.{minus, padded, digit_before, shortened, at_least_one, whole_digits, part_digits, decimal_text}
use Rattle.nm_types.proofs.Decimals.{digits_value_after-append}
use Rattle.nm_types.proofs.Powers.{cancel}

pub integer-canonical : (z : ℤ) → FitsSigned w128 z → SpellsInteger (signed_decimal z) z
integer-canonical (pos n) f =
    let small : n < 10 ^ 64 = omega (arith, f.sfits) in
    let d = decimal_is_IsNumeral_wide n small in
    record { digits = decimal n; number = d.0; signed = unsigned refl (ap pos (sym d.1)) }
integer-canonical (negsuc n) f =
    let small : suc n < 10 ^ 64 = omega (arith, f.sfits) in
    let d = decimal_is_IsNumeral_wide (suc n) small in
    record { digits = decimal (suc n); number = d.0; signed = minus_sign refl (ap (λ (m : ℕ). neg_ℤ (pos m)) (sym d.1)) }

AllDigits-append : (xs ys : List ℕ) → AllDigits 10 xs → AllDigits 10 ys → AllDigits 10 (xs ++ ys)
AllDigits-append [] ys a b = b
AllDigits-append (x ∷ xs) ys a b = (a.0, AllDigits-append xs ys a.1 b)

AllDigits-front : (xs ys : List ℕ) → AllDigits 10 (xs ++ ys) → AllDigits 10 xs
AllDigits-front [] ys h = tt
AllDigits-front (x ∷ xs) ys h = (h.0, AllDigits-front xs ys h.1)

AllDigits-back : (xs ys : List ℕ) → AllDigits 10 (xs ++ ys) → AllDigits 10 ys
AllDigits-back [] ys h = h
AllDigits-back (x ∷ xs) ys h = AllDigits-back xs ys h.1

AllDigits-zeros : (k : ℕ) → AllDigits 10 (replicate k 48)
AllDigits-zeros zero = tt
AllDigits-zeros (suc k) = (lit< tt, AllDigits-zeros k)

zeros-after : (k : ℕ) → digits_value_after 10 0 (replicate k 48) ≡ 0
zeros-after zero = refl
zeros-after (suc k) = zeros-after k

-- what shortened digits lack is zeros
shortened-zeros : (ds : List ℕ) → (j : ℕ) × (ds ≡ shortened ds ++ replicate j 48)
unfolding shortened
shortened-zeros [] = (0, refl)
shortened-zeros (x ∷ xs) = let h = shortened-zeros xs in front (shortened xs) h.0 h.1
  where
    front : (ss : List ℕ) (j : ℕ) → xs ≡ ss ++ replicate j 48 → (k : ℕ) × (x ∷ xs ≡ digit_before x ss ++ replicate k 48)
    front [] j e = elim (cases_Bool (x == 48)) [
      | inl z ↦ (let f : x ≡ 48 = eqb-true x 48 z in (suc j, rw z (λ i. f i ∷ e i)))
      | inr n ↦ (j, rw n (ap (λ (l : List ℕ). x ∷ l) e))
    ]
    front (s ∷ ss) j e = (j, ap (λ (l : List ℕ). x ∷ l) e)

-- a part of a decimal's text means the scaled value
abbrev Means : ℕ → ℕ → List ℕ → List ℕ → Type 0
Means d m whole part = digits_value 10 (whole ++ part) * 10 ^ d ≡ m * 10 ^ length part

push-value : (whole q : List ℕ) → digits_value 10 (whole ++ (q ++ 48 ∷ [])) ≡ digits_value 10 (whole ++ q) * 10
push-value whole q = ap (digits_value 10) (sym (append_assoc whole q (48 ∷ []))) ∙ digits_value_after-append 0 (whole ++ q) (48 ∷ []) ∙ omega arith

push-power : (q : List ℕ) → 10 ^ length (q ++ 48 ∷ []) ≡ 10 ^ length q * 10
push-power q = let e : length (q ++ 48 ∷ []) ≡ suc (length q) = omega (arith, length-append q (48 ∷ [])) in ap (λ (n : ℕ). 10 ^ n) e ∙ pow-suc 10 (length q)

Means-push : (d m : ℕ) (whole q : List ℕ) → Means d m whole q → Means d m whole (q ++ 48 ∷ [])
Means-push d m whole q h =
    let v = digits_value 10 (whole ++ q) in
    let a : v * 10 * 10 ^ d ≡ v * 10 ^ d * 10 = omega arith in
    let b : m * 10 ^ length q * 10 ≡ m * (10 ^ length q * 10) = mul_assoc m (10 ^ length q) 10 in
    ap (λ (n : ℕ). n * 10 ^ d) (push-value whole q) ∙ a ∙ ap (λ (n : ℕ). n * 10) h ∙ b ∙ ap (λ (n : ℕ). m * n) (sym (push-power q))

Means-pop : (d m : ℕ) (whole q : List ℕ) → Means d m whole (q ++ 48 ∷ []) → Means d m whole q
Means-pop d m whole q h =
    let v = digits_value 10 (whole ++ q) in
    let a : v * 10 ^ d * 10 ≡ v * 10 * 10 ^ d = omega arith in
    let b : m * (10 ^ length q * 10) ≡ m * 10 ^ length q * 10 = sym (mul_assoc m (10 ^ length q) 10) in
    cancel _ _ 10 (lit< tt) (a ∙ ap (λ (n : ℕ). n * 10 ^ d) (sym (push-value whole q)) ∙ h ∙ ap (λ (n : ℕ). m * n) (push-power q) ∙ b)

Means-front : (d m : ℕ) (whole : List ℕ) (j : ℕ) (q : List ℕ) → Means d m whole (q ++ replicate j 48) → Means d m whole q
Means-front d m whole zero q h = subst (Means d m whole) (append-nil q) h
Means-front d m whole (suc j) q h = Means-pop d m whole q (Means-front d m whole j (q ++ 48 ∷ []) (subst (Means d m whole) (sym (append_assoc q (48 ∷ []) (replicate j 48))) h))

Means-one : (d m : ℕ) (whole s : List ℕ) → Means d m whole s → Means d m whole (at_least_one s)
Means-one d m whole [] h = Means-push d m whole [] h
Means-one d m whole (x ∷ xs) h = h

one-numeral : (s : List ℕ) → AllDigits 10 s → IsNumeral 10 (at_least_one s)
one-numeral [] h = (lit< tt, (lit< tt, tt))
one-numeral (x ∷ xs) h = (omega arith, h)

signed-text : (z : ℤ) (whole rest : List ℕ) → IsSigned (minus z ++ whole ++ rest) (whole ++ rest) (unsigned_abs z) z
signed-text (pos n) whole rest = let e : ltb n 0 ≡ false = false_from_ne_true (ltb n 0) (λ t. omega (arith, ltb-true n 0 t)) in rw e (unsigned refl refl)
signed-text (negsuc n) whole rest = minus_sign refl refl

pub decimal-canonical : (z : ℤ) (d : ℕ) → FitsSigned w64 z → SpellsDecimal d (decimal_text z d) z
unfolding decimal_text
decimal-canonical z d f =
    let m = unsigned_abs z in
    let small : m < 10 ^ 64 = small_abs z f in
    let dec = decimal_is_IsNumeral_wide m small in
    let all = padded d m in
    let digits : AllDigits 10 all = AllDigits-append (replicate (d + 1 - length (decimal m)) 48) (decimal m) (AllDigits-zeros (d + 1 - length (decimal m))) dec.0.1 in
    let value : digits_value 10 all ≡ m = digits_value_after-append 0 (replicate (d + 1 - length (decimal m)) 48) (decimal m) ∙ ap (λ (n : ℕ). digits_value_after 10 n (decimal m)) (zeros-after (d + 1 - length (decimal m))) ∙ dec.1 in
    let long : d + 1 ≤ length all = omega (arith, length-append (replicate (d + 1 - length (decimal m)) 48) (decimal m), length-replicate {A = ℕ} (d + 1 - length (decimal m)) 48) in
    let at = length all - d in
    let joined : whole_digits d m ++ part_digits d m ≡ all = take-append-drop at all in
    let split : AllDigits 10 (whole_digits d m ++ part_digits d m) = subst (AllDigits 10) (sym joined) digits in
    let places : length (part_digits d m) ≡ d = omega (arith, length-drop at all, long) in
    let front : 0 < length (whole_digits d m) = omega (arith, length-take at all, long) in
    let s = shortened-zeros (part_digits d m) in
    let whole-means : Means d m (whole_digits d m) (part_digits d m) = ap (λ (l : List ℕ). digits_value 10 l * 10 ^ d) joined ∙ ap (λ (n : ℕ). n * 10 ^ d) value ∙ ap (λ (n : ℕ). m * 10 ^ n) (sym places) in
    let short-means = Means-front d m (whole_digits d m) s.0 (shortened (part_digits d m)) (subst (Means d m (whole_digits d m)) s.1 whole-means) in
    let short-digits = AllDigits-front (shortened (part_digits d m)) (replicate s.0 48) (subst (AllDigits 10) s.1 (AllDigits-back (whole_digits d m) (part_digits d m) split)) in
    record {
      rest = whole_digits d m ++ 46 ∷ at_least_one (shortened (part_digits d m));
      whole = whole_digits d m;
      part = at_least_one (shortened (part_digits d m));
      scaled = m;
      number = (front, AllDigits-front (whole_digits d m) (part_digits d m) split);
      parts = pointed refl (one-numeral (shortened (part_digits d m)) short-digits);
      same = Means-one d m (whole_digits d m) (shortened (part_digits d m)) short-means;
      signed = signed-text z (whole_digits d m) (46 ∷ at_least_one (shortened (part_digits d m)));
    }
  where
    small_abs : (w : ℤ) → FitsSigned w64 w → unsigned_abs w < 10 ^ 64
    small_abs (pos n) g = omega (arith, g.sfits)
    small_abs (negsuc n) g = omega (arith, g.sfits)
