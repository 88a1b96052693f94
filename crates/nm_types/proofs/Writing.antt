-- Writing canonical texts.
use Rattle.std.proofs.Common.{◌≡◌, ℕ, ◌<◌, ◌≤◌, ◌+◌, ◌-◌, false, List, [], ◌∷◌, ◌++◌, take, drop, length, get_or, ap, refl, sym, ◌∙◌, arith}
use Rattle.std.specs.Prelude.{◌==◌}
use Rattle.std.proofs.lemmas.List.{take_more}
use Rattle.std.proofs.lemmas.Bool.{false_from_ne_true}
use borrow.Author.Tests.{eqb-true}
use Rattle.std.proofs.Common.{ℤ, append_assoc}
use Rattle.std.specs.Prelude.{unsigned_abs}
use Rattle.nm_types.specs.Canonical.{digit_before, shortened, minus, padded, at_least_one, whole_digits, part_digits, decimal_text}

shortened-zero : (xs : List ℕ) → shortened (xs ++ 48 ∷ []) ≡ shortened xs
unfolding shortened
shortened-zero [] = refl
shortened-zero (x ∷ xs) = ap (digit_before x) (shortened-zero xs)

shortened-last : (xs : List ℕ) (c : ℕ) → (c == 48) ≡ false → shortened (xs ++ c ∷ []) ≡ xs ++ c ∷ []
unfolding shortened
shortened-last [] c e = rw e refl
shortened-last (x ∷ []) c e = ap (digit_before x) (shortened-last [] c e)
shortened-last (x ∷ y ∷ ys) c e = ap (digit_before x) (shortened-last (y ∷ ys) c e)

take-last : (ds : List ℕ) (n : ℕ) → 0 < n → n ≤ length ds → take n ds ≡ take (n - 1) ds ++ get_or ds (n - 1) 0 ∷ []
take-last ds n a b =
    let e : n ≡ n - 1 + 1 = omega arith in
    ap (λ (k : ℕ). take k ds) e ∙ take_more ds (n - 1) 0 (omega arith)

-- one zero less at the end
pub shortened-more : (ds : List ℕ) (n : ℕ) → 0 < n → n ≤ length ds → get_or ds (n - 1) 0 ≡ 48 → shortened (take (n - 1) ds) ≡ shortened (take n ds)
shortened-more ds n a b c =
    sym (ap shortened (take-last ds n a b ∙ ap (λ (d : ℕ). take (n - 1) ds ++ d ∷ []) c) ∙ shortened-zero (take (n - 1) ds))

-- no zero at the end
pub shortened-done : (ds : List ℕ) (n : ℕ) → 0 < n → n ≤ length ds → (get_or ds (n - 1) 0 ≡ 48 → ⊥) → take n ds ≡ shortened (take n ds)
shortened-done ds n a b z =
    let e = take-last ds n a b in
    sym (ap shortened e ∙ shortened-last (take (n - 1) ds) (get_or ds (n - 1) 0) (false_from_ne_true (get_or ds (n - 1) 0 == 48) (λ t. z (eqb-true (get_or ds (n - 1) 0) 48 t))) ∙ sym e)

pub shortened-none : (ds : List ℕ) (n : ℕ) → n ≤ 0 → take n ds ≡ shortened (take n ds)
unfolding shortened
shortened-none ds n h = let e : n ≡ 0 = omega arith in rw e refl

-- the pieces of a decimal's text
pub decimal_pieces : (z : ℤ) (d m n at : ℕ) (all whole part sign t1 t2 t3 p : List ℕ) →
    m ≡ unsigned_abs z → all ≡ padded d m → n ≡ d → at ≡ length all → whole ≡ take (at - n) all → part ≡ drop (at - n) all →
    sign ≡ minus z → t1 ≡ sign ++ whole → t2 ≡ t1 ++ 46 ∷ [] → p ≡ at_least_one (shortened part) → t3 ≡ t2 ++ p →
    t3 ≡ decimal_text z d
unfolding decimal_text
decimal_pieces z d m n at all whole part sign t1 t2 t3 p em ea en el ew ep es e1 e2 eb e3 =
    let all-is : all ≡ padded d (unsigned_abs z) = ea ∙ ap (padded d) em in
    let cut : at - n ≡ length (padded d (unsigned_abs z)) - d = omega (arith, el, en, ap length all-is) in
    let whole-is : whole ≡ whole_digits d (unsigned_abs z) = ew ∙ ap (λ (k : ℕ). take k all) cut ∙ ap (take (length (padded d (unsigned_abs z)) - d)) all-is in
    let part-is : part ≡ part_digits d (unsigned_abs z) = ep ∙ ap (λ (k : ℕ). drop k all) cut ∙ ap (drop (length (padded d (unsigned_abs z)) - d)) all-is in
    let p-is : p ≡ at_least_one (shortened (part_digits d (unsigned_abs z))) = eb ∙ ap (λ (l : List ℕ). at_least_one (shortened l)) part-is in
    let t-is : t1 ≡ minus z ++ whole_digits d (unsigned_abs z) = e1 ∙ ap (λ (l : List ℕ). l ++ whole) es ∙ ap (λ (l : List ℕ). minus z ++ l) whole-is in
    e3 ∙ ap (λ (l : List ℕ). l ++ p) (e2 ∙ ap (λ (l : List ℕ). l ++ 46 ∷ []) t-is) ∙ ap (λ (l : List ℕ). minus z ++ whole_digits d (unsigned_abs z) ++ 46 ∷ [] ++ l) p-is
    ∙ append_assoc (minus z ++ whole_digits d (unsigned_abs z)) (46 ∷ []) _
