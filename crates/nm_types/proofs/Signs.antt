-- Signs and numerals: the relation and the function.
use Rattle.std.proofs.Common.{◌≡◌, ℕ, false, List, [], ◌∷◌, get_or, Some, ℤ, ap, refl, sym, subst, arith, inl, inr}
use Rattle.std.specs.Prelude.{◌==◌}
use Rattle.std.specs.Str.Parse.{IsNumeral, digits_value, without_leading_sign}
use Rattle.std.specs.Int.{IsInRange}
use Rattle.std.proofs.lemmas.Str.Parse.{digit_at}
use Rattle.std.proofs.lemmas.Bool.{cases_Bool, false_from_ne_true}
use borrow.Author.Tests.{eqb-true}
use Rattle.nm_types.specs.Spells.{IsSigned, unsigned, plus, minus, SpellsInteger}
use Rattle.nm_types.specs.Reading.{is_numeral, with_sign, integer_of}
use Rattle.nm_types.proofs.Integers.{IsNumeral-from_test, is_numeral-from_fact}

-- a text is its sign and the rest
pub signed-view : (text : List ℕ) (m : ℕ) → IsSigned text (without_leading_sign text) m (with_sign text m)
signed-view [] m = unsigned refl refl
signed-view (b ∷ bs) m = elim (cases_Bool (b == 45)) [
  | inl e ↦ (let f : b ≡ 45 = eqb-true b 45 e in rw e (minus (ap (λ (c : ℕ). c ∷ bs) f) refl))
  | inr e ↦ elim (cases_Bool (b == 43)) [
    | inl g ↦ (let f : b ≡ 43 = eqb-true b 43 g in rw (e, g) (plus (ap (λ (c : ℕ). c ∷ bs) f) refl))
    | inr g ↦ rw (e, g) (unsigned refl refl)
  ]
]

-- a text that begins with a digit
abbrev pub DigitFirst : List ℕ → Type 0
DigitFirst rest = IsInRange 48 57 (get_or rest 0 0)

-- what stands behind a sign, and the signed number
pub signed-parts : (text rest : List ℕ) (m : ℕ) (z : ℤ) → DigitFirst rest → IsSigned text rest m z → (without_leading_sign text ≡ rest) × (with_sign text m ≡ z)
signed-parts text rest m z d (unsigned e f) =
    let p : (get_or text 0 0 == 45) ≡ false = false_from_ne_true _ (λ t. absurd (omega (arith, eqb-true (get_or text 0 0) 45 t, ap (λ (l : List ℕ). get_or l 0 0) e))) in
    let q : (get_or text 0 0 == 43) ≡ false = false_from_ne_true _ (λ t. absurd (omega (arith, eqb-true (get_or text 0 0) 43 t, ap (λ (l : List ℕ). get_or l 0 0) e))) in
    (rw (p, q) e, rw p (sym f))
signed-parts text rest m z d (plus e f) = subst (λ (t : List ℕ). (without_leading_sign t ≡ rest) × (with_sign t m ≡ z)) (sym e) (refl, sym f)
signed-parts text rest m z d (minus e f) = subst (λ (t : List ℕ). (without_leading_sign t ≡ rest) × (with_sign t m ≡ z)) (sym e) (refl, sym f)

pub DigitFirst-numeral : (ds : List ℕ) → IsNumeral 10 ds → DigitFirst ds
DigitFirst-numeral ds h = digit_at ds 0 h.1 h.0

-- the function finds what the relation says
pub integer-sound : (text : List ℕ) (z : ℤ) → integer_of text ≡ Some z → SpellsInteger text z
unfolding integer_of
integer-sound text z e = elim (cases_Bool (is_numeral (without_leading_sign text))) [
  | inl n ↦ (let f = rw n at e in
      let g : with_sign text (digits_value 10 (without_leading_sign text)) ≡ z = cc in
      record { digits = without_leading_sign text; number = IsNumeral-from_test _ n; signed = subst (IsSigned text (without_leading_sign text) (digits_value 10 (without_leading_sign text))) g (signed-view text _) })
  | inr n ↦ (let f = rw n at e in absurd (let g : ⊥ = cc in g))
]

pub integer-complete : (text : List ℕ) (z : ℤ) → SpellsInteger text z → integer_of text ≡ Some z
unfolding integer_of
integer-complete text z s =
    let p = signed-parts text s.digits (digits_value 10 s.digits) z (DigitFirst-numeral s.digits s.number) s.signed in
    rw (p.0, is_numeral-from_fact s.digits s.number) (ap Some p.1)
