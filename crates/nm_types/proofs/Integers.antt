-- Reading integers.
use Rattle.std.proofs.Common.{◌≡◌, ◌≢◌, ℕ, Bool, true, false, List, [], ◌∷◌, length, Option, Some, None, Ok, Err, ℤ, FitsSigned, to_z, of_z, ap, refl, sym, ◌∙◌, arith}
use Rattle.std.specs.Prelude.{◌&&◌, ◌==◌}
use Rattle.std.specs.Int.{w128}
use Rattle.std.specs.List.{list_all}
use Rattle.std.specs.Char.{is_ascii_digit}
use Rattle.std.specs.Str.{all_ascii_digits}
use Rattle.std.specs.Str.Parse.{IsNumeral, digits_value, without_leading_sign, signed_digits_value}
use Rattle.std.proofs.lemmas.Str.Parse.{IsNumeralModel, numerals_by_value, tells_all_ascii_digits}
use Rattle.std.proofs.lemmas.Bool.Decides.{nat_tests}
use Rattle.std.proofs.lemmas.Int.{ints, to_z-of_z}
use Rattle.std.proofs.lemmas.Bool.{false_from_ne_true}
use Rattle.nm_types.specs.declared.value.Value.{Value}
use Rattle.nm_types.specs.declared.value.Value.TheVariants.{Int}
use Rattle.nm_types.specs.declared.fault.ValueFault.TheVariants.{BadText, OutOfRange}
use Rattle.nm_types.specs.LeafType.{integer, TypeOfLeaf}
use Rattle.nm_types.specs.Limits.{is_within, meets_range, meets_limits}
use Rattle.nm_types.specs.Reading.{is_numeral, integer_of, spelled, judged, reading}

-- a text that begins with no sign is itself without its sign
pub no_sign : (bs : List ℕ) → ((rest : List ℕ) → bs ≢ 45 ∷ rest) → ((rest : List ℕ) → bs ≢ 43 ∷ rest) → bs ≡ without_leading_sign bs
no_sign [] m p = refl
no_sign (b ∷ bs) m p =
    let e : (b == 45) ≡ false = grind (arith, nat_tests, m bs) in
    let f : (b == 43) ≡ false = grind (arith, nat_tests, p bs) in
    rw (e, f) refl

pub list_all-digits : (ds : List ℕ) → list_all is_ascii_digit ds ≡ all_ascii_digits ds
list_all-digits [] = refl
list_all-digits (d ∷ ds) = ap (λ b. is_ascii_digit d && b) (list_all-digits ds)

pub digits : IsNumeralModel (λ ds. all_ascii_digits ds ≡ true) (digits_value 10)
digits = numerals_by_value _ tells_all_ascii_digits

-- the test of a numeral tells whether a text is one
pub IsNumeral-from_test : (ds : List ℕ) → is_numeral ds ≡ true → IsNumeral 10 ds
IsNumeral-from_test [] e = cc
IsNumeral-from_test (d ∷ ds) e = (omega arith, digits.to (d ∷ ds) e)

pub is_numeral-from_fact : (ds : List ℕ) → IsNumeral 10 ds → is_numeral ds ≡ true
is_numeral-from_fact [] h = absurd (omega (arith, h.0))
is_numeral-from_fact (d ∷ ds) h = digits.from (d ∷ ds) h.1

pub numeral_test : (ds : List ℕ) → false ≡ (length ds == 0) → all_ascii_digits ds ≡ is_numeral ds
numeral_test [] e = cc
numeral_test (d ∷ ds) e = refl

-- what is spelled decides what reading gives
pub reading_none : (t : TypeOfLeaf) (text : List ℕ) → spelled t.kind text ≡ None → reading t text ≡ Err BadText
reading_none t text e = ap (judged t) e

pub reading_some : (t : TypeOfLeaf) (text : List ℕ) (v : Value) → spelled t.kind text ≡ Some v → meets_limits t v ≡ true → reading t text ≡ Ok v
reading_some t text v e m = ap (judged t) e ∙ rw m refl

pub reading_out : (t : TypeOfLeaf) (text : List ℕ) (v : Value) → spelled t.kind text ≡ Some v → meets_limits t v ≡ false → reading t text ≡ Err OutOfRange
reading_out t text v e m = ap (judged t) e ∙ rw m refl

module _ (low high : ℤ) (range : Option (List (ℤ × ℤ))) (text : List ℕ) where
  abbrev t : TypeOfLeaf
  t = record { kind = integer low high; limits = range }

  pub integer_bad : is_numeral (without_leading_sign text) ≡ false → Err BadText ≡ reading t text
  unfolding spelled integer_of
  integer_bad e = sym (reading_none t text (rw e refl))

  spelled_integer : is_numeral (without_leading_sign text) ≡ true → spelled (integer low high) text ≡ Some (Int (signed_digits_value 10 text))
  unfolding spelled integer_of
  spelled_integer e = rw e refl

  pub integer_in : is_numeral (without_leading_sign text) ≡ true → is_within (signed_digits_value 10 text) (low, high) && meets_range range (signed_digits_value 10 text) ≡ true → Ok (Int (signed_digits_value 10 text)) ≡ reading t text
  integer_in e w = sym (reading_some t text _ (spelled_integer e) w)

  pub integer_out : is_numeral (without_leading_sign text) ≡ true → is_within (signed_digits_value 10 text) (low, high) && meets_range range (signed_digits_value 10 text) ≡ false → Err OutOfRange ≡ reading t text
  integer_out e w = sym (reading_out t text _ (spelled_integer e) w)

-- what is between numbers of 128 bits is one
pub fits_between : (low high z : ℤ) → FitsSigned w128 low → FitsSigned w128 high → is_within z (low, high) ≡ true → FitsSigned w128 z
fits_between low high z a b e = grind (arith, ints)

-- a number that 128 bits don't hold is within no bounds of 128 bits
pub beyond_bounds : (low high z : ℤ) → FitsSigned w128 low → FitsSigned w128 high → (FitsSigned w128 z → ⊥) → is_within z (low, high) ≡ false
beyond_bounds low high z a b h = false_from_ne_true (is_within z (low, high)) (λ e. h (fits_between low high z a b e))

-- what the test of bounds and ranges says of passed numbers, it says of the numbers
pub bounds_alike : (test : Bool) (n z l low h high : ℤ) (range : Option (List (ℤ × ℤ))) → n ≡ z → l ≡ low → h ≡ high → FitsSigned w128 z → FitsSigned w128 low → FitsSigned w128 high →
    test ≡ is_within (to_z w128 (of_z w128 n)) (to_z w128 (of_z w128 l), to_z w128 (of_z w128 h)) && meets_range range (to_z w128 (of_z w128 n)) →
    is_within z (low, high) && meets_range range z ≡ test
bounds_alike test n z l low h high range en el eh fz fl fh t =
    let f = λ (a b d : ℤ). is_within a (b, d) && meets_range range a in
    let pn : to_z w128 (of_z w128 n) ≡ z = ap (λ (a : ℤ). to_z w128 (of_z w128 a)) en ∙ to_z-of_z w128 z fz in
    let pl : to_z w128 (of_z w128 l) ≡ low = ap (λ (a : ℤ). to_z w128 (of_z w128 a)) el ∙ to_z-of_z w128 low fl in
    let ph : to_z w128 (of_z w128 h) ≡ high = ap (λ (a : ℤ). to_z w128 (of_z w128 a)) eh ∙ to_z-of_z w128 high fh in
    sym (t ∙ ap (λ (a : ℤ). f a (to_z w128 (of_z w128 l)) (to_z w128 (of_z w128 h))) pn ∙ ap (λ (b : ℤ). f z b (to_z w128 (of_z w128 h))) pl ∙ ap (λ (d : ℤ). f z low d) ph)

-- an integer that was passed is that integer
pub Int-passed : (n z : ℤ) → n ≡ z → FitsSigned w128 z → Int (to_z w128 (of_z w128 n)) ≡ Int z
Int-passed n z e fz = ap (λ (a : ℤ). Int (to_z w128 (of_z w128 a))) e ∙ ap Int (to_z-of_z w128 z fz)
