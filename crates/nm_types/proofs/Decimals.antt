-- Reading decimals.
use Rattle.std.proofs.Common.{cond, negsuc, rules}
use Rattle.std.specs.Prelude.{neg_ℤ}
use Rattle.std.specs.Int.{w64, w128}
use Rattle.std.specs.Str.Parse.{without_leading_sign, starts_with_minus}
use Rattle.std.proofs.lemmas.Bool.{false≢true}
use Rattle.std.proofs.lemmas.Int.{ints, to_z-of_z}
use Rattle.nm_types.specs.declared.value.Value.TheVariants.{Decimal}
use Rattle.nm_types.specs.declared.fault.ValueFault.TheVariants.{BadText, OutOfRange}
use Rattle.nm_types.specs.LeafType.{decimal, TypeOfLeaf}
use Rattle.nm_types.specs.Limits.{is_within, i64_part, meets_range}
use Rattle.nm_types.specs.Reading.{with_sign, spelled, reading}
use Rattle.nm_types.proofs.Integers.{reading_none, reading_some, reading_out}
use Rattle.std.proofs.Common.{◌≡◌, ℕ, ◌<◌, ◌≤◌, ◌+◌, ◌-◌, ◌*◌, ◌^◌, min, Bool, true, false, List, [], ◌∷◌, ◌++◌, length, get_or, take, drop, Option, Some, None, Ok, Err, ℤ, pos, FitsSigned, to_z, of_z, ap, refl, sym, ◌∙◌, arith, add-one}
use Rattle.std.specs.Prelude.{◌&&◌, ◌==◌, option_map}
use Rattle.std.specs.Str.Parse.{digits_value_after}
use Rattle.std.specs.Char.{digit_value}
use Rattle.std.specs.Int.{IsInRange}
use Rattle.std.specs.Str.{all_ascii_digits}
use Rattle.std.specs.Char.{is_ascii_digit}
use Rattle.std.specs.List.{list_all}
use Rattle.std.proofs.Common.{drop-cons, zero, suc, inl, inr, lit<, length-take}
use Rattle.std.proofs.lemmas.Bool.{cases_lt}
use Rattle.std.proofs.lemmas.List.{take_min}
use Rattle.nm_types.specs.Reading.{scaled_of, is_point, whole_of, pointed_of, magnitude_of}
use Rattle.std.specs.List.{position_or_len, before_first, after_first}
use Rattle.std.proofs.Common.{ltb}
use borrow.Author.Tests.{lt-ltb, ltb-true}
use Rattle.std.proofs.lemmas.Bool.{false_from_ne_true}
use Rattle.std.proofs.lemmas.Str.Parse.{digit_at}
use Rattle.std.proofs.lemmas.Bool.Decides.{nat_tests}
use Rattle.std.proofs.Math.Nat.{mul_assoc, pow-suc, mul-le-mul_left}
use Rattle.nm_types.proofs.Integers.{digits}

-- a number that stops growing at a top goes on as one that doesn't, up to that top
pub top-after : (m : ℕ) (ds : List ℕ) → min (digits_value_after 10 (min m (2 ^ 64)) ds) (2 ^ 64) ≡ min (digits_value_after 10 m ds) (2 ^ 64)
top-after m [] = omega arith
top-after m (d ∷ ds) =
    let e : min (min m (2 ^ 64) * 10 + digit_value d) (2 ^ 64) ≡ min (m * 10 + digit_value d) (2 ^ 64) = omega arith in
    sym (top-after (min m (2 ^ 64) * 10 + digit_value d) ds)
    ∙ ap (λ (n : ℕ). min (digits_value_after 10 n ds) (2 ^ 64)) e
    ∙ top-after (m * 10 + digit_value d) ds

pub top-moved : (m : ℕ) → min (min m (2 ^ 64) * 10) (2 ^ 64) ≡ min (m * 10) (2 ^ 64)
top-moved m = omega arith

pub top-step : (moved n p r : ℕ) → moved ≡ min (n * 10 ^ p) (2 ^ 64) → r ≡ min (moved * 10) (2 ^ 64) → r ≡ min (n * 10 ^ (p + 1)) (2 ^ 64)
top-step moved n p r e f =
    let g : n * 10 ^ (p + 1) ≡ n * 10 ^ p * 10 = rw (add-one, pow-suc) (sym (mul_assoc n (10 ^ p) 10)) in
    omega (arith, g, e, f)

-- each byte of digits is a digit
pub digit_at_index : (ds : List ℕ) (i : ℕ) → all_ascii_digits ds ≡ true → i < length ds → IsInRange 48 57 (get_or ds i 0)
digit_at_index ds i e h = digit_at ds i (digits.to ds e) h

digit_value-digit : (b : ℕ) → IsInRange 48 57 b → digit_value b ≡ b - 48
digit_value-digit b h = grind (arith, nat_tests)

pub number-step : (n start r i : ℕ) (ds : List ℕ) → all_ascii_digits ds ≡ true → i < length ds →
    min (digits_value_after 10 n (drop i ds)) (2 ^ 64) ≡ min (digits_value_after 10 start ds) (2 ^ 64) →
    r ≡ min (n * 10 + (get_or ds i 0 - 48)) (2 ^ 64) →
    min (digits_value_after 10 r (drop (i + 1) ds)) (2 ^ 64) ≡ min (digits_value_after 10 start ds) (2 ^ 64)
number-step n start r i ds e h inv f =
    let b = get_or ds i 0 in
    let d : digit_value b ≡ b - 48 = digit_value-digit b (digit_at_index ds i e h) in
    let cons : drop i ds ≡ b ∷ drop (i + 1) ds = rw add-one (drop-cons ds i 0 h) in
    let rest = drop (i + 1) ds in
    ap (λ (m : ℕ). min (digits_value_after 10 m rest) (2 ^ 64)) f
    ∙ top-after (n * 10 + (b - 48)) rest
    ∙ ap (λ (m : ℕ). min (digits_value_after 10 (n * 10 + m) rest) (2 ^ 64)) (sym d)
    ∙ ap (λ (l : List ℕ). min (digits_value_after 10 n l) (2 ^ 64)) (sym cons)
    ∙ inv

pub and_parts : (a b : Bool) → a && b ≡ true → (a ≡ true) × (b ≡ true)
and_parts true b e = (refl, e)
and_parts false b e = cc

pub all-take : (k : ℕ) (ds : List ℕ) → all_ascii_digits ds ≡ true → all_ascii_digits (take k ds) ≡ true
all-take zero ds e = refl
all-take (suc k) [] e = refl
all-take (suc k) (d ∷ ds) e =
    let p = and_parts (is_ascii_digit d) (all_ascii_digits ds) e in
    rw p.0 (all-take k ds p.1)

pub digits_value_after-append : (n : ℕ) (xs ys : List ℕ) → digits_value_after 10 n (xs ++ ys) ≡ digits_value_after 10 (digits_value_after 10 n xs) ys
digits_value_after-append n [] ys = refl
digits_value_after-append n (x ∷ xs) ys = digits_value_after-append (n * 10 + digit_value x) xs ys

-- a product with a factor that is at least 1 may stop growing before
pub top-product : (x p : ℕ) → 0 < p → min (min x (2 ^ 64) * p) (2 ^ 64) ≡ min (x * p) (2 ^ 64)
top-product x p h = elim (cases_lt (2 ^ 64) x) [
  | inr le ↦ (let e : min x (2 ^ 64) ≡ x = omega arith in rw e refl)
  | inl gt ↦ (let e : min x (2 ^ 64) ≡ 2 ^ 64 = omega arith in
      let a : 2 ^ 64 * 1 ≤ 2 ^ 64 * p = mul-le-mul_left (2 ^ 64) h in
      let b : x * 1 ≤ x * p = mul-le-mul_left x h in
      let c : min (2 ^ 64 * p) (2 ^ 64) ≡ 2 ^ 64 = omega (arith, a) in
      let d : min (x * p) (2 ^ 64) ≡ 2 ^ 64 = omega (arith, b) in
      rw (e, c, d) refl)
]

pub pow-pos : (k : ℕ) → 0 < 10 ^ k
pow-pos zero = lit< tt
pow-pos (suc k) = let h : 0 < 10 ^ k = pow-pos k in rw pow-suc (omega (arith, h))

drop_min : (n : ℕ) (xs : List ℕ) → drop (min n (length xs)) xs ≡ drop n xs
drop_min zero xs = let e : min 0 (length xs) ≡ 0 = omega arith in rw e refl
drop_min (suc n) [] = let e : min (suc n) 0 ≡ 0 = omega arith in rw e refl
drop_min (suc n) (x ∷ xs) =
    let e : min (suc n) (length (x ∷ xs)) ≡ suc (min n (length xs)) = omega arith in
    rw e (drop_min n xs)

pub scaled_some : (d k n r : ℕ) (whole part kept surplus : List ℕ) → k ≡ min (length part) d → kept ≡ take k part → surplus ≡ drop k part →
    list_all (λ b. b == 48) surplus ≡ true →
    n ≡ min (digits_value_after 10 (min (digits_value_after 10 0 whole) (2 ^ 64)) kept) (2 ^ 64) →
    r ≡ min (n * 10 ^ (d - length kept)) (2 ^ 64) →
    Some r ≡ option_map (λ m. min m (2 ^ 64)) (scaled_of d whole part)
scaled_some d k n r whole part kept surplus ek et es ez en er =
    let k-is : k ≡ min d (length part) = omega arith in
    let kept-is : kept ≡ take d part = et ∙ ap (λ (j : ℕ). take j part) k-is ∙ take_min d part in
    let surplus-is : surplus ≡ drop d part = es ∙ ap (λ (j : ℕ). drop j part) k-is ∙ drop_min d part in
    let zeros : list_all (λ b. b == 48) (drop d part) ≡ true = ap (list_all (λ b. b == 48)) (sym surplus-is) ∙ ez in
    let places : d - length kept ≡ d - length part = omega (arith, ap length et, length-take k part) in
    let number : n ≡ min (digits_value_after 10 0 (whole ++ take d part)) (2 ^ 64) =
    en ∙ top-after (digits_value_after 10 0 whole) kept
    ∙ ap (λ (l : List ℕ). min (digits_value_after 10 (digits_value_after 10 0 whole) l) (2 ^ 64)) kept-is
    ∙ ap (λ (m : ℕ). min m (2 ^ 64)) (sym (digits_value_after-append 0 whole (take d part))) in
    let product : r ≡ min (digits_value_after 10 0 (whole ++ take d part) * 10 ^ (d - length part)) (2 ^ 64) =
    er ∙ ap (λ (j : ℕ). min (n * 10 ^ j) (2 ^ 64)) places
    ∙ ap (λ (m : ℕ). min (m * 10 ^ (d - length part)) (2 ^ 64)) number
    ∙ top-product (digits_value_after 10 0 (whole ++ take d part)) (10 ^ (d - length part)) (pow-pos (d - length part)) in
    rw zeros (ap Some product)

pub magnitude_pointed : (d : ℕ) (rest : List ℕ) → position_or_len is_point rest < length rest → pointed_of d (before_first is_point rest) (after_first is_point rest) ≡ magnitude_of d rest
unfolding magnitude_of
magnitude_pointed d rest h = let e : ltb (position_or_len is_point rest) (length rest) ≡ true = lt-ltb _ _ h in rw e refl

pub magnitude_whole : (d : ℕ) (rest : List ℕ) → position_or_len is_point rest ≡ length rest → whole_of d rest ≡ magnitude_of d rest
unfolding magnitude_of
magnitude_whole d rest h = let e : ltb (position_or_len is_point rest) (length rest) ≡ false = false_from_ne_true (ltb (position_or_len is_point rest) (length rest)) (λ t. omega (arith, h, ltb-true (position_or_len is_point rest) (length rest) t)) in rw e refl

pub option_none : (o : Option ℕ) → None ≡ option_map (λ m. min m (2 ^ 64)) o → o ≡ None
option_none None e = refl
option_none (Some x) e = cc

pub option_some : (o : Option ℕ) (m : ℕ) → Some m ≡ option_map (λ m. min m (2 ^ 64)) o → (x : ℕ) × (o ≡ Some x) × (m ≡ min x (2 ^ 64))
option_some None m e = cc
option_some (Some x) m e = let f : m ≡ min x (2 ^ 64) = cc in (x, refl, f)

past : (y : ℕ) → 2 ^ 64 ≤ y → is_within (neg_ℤ (pos y)) i64_part ≡ true → ⊥
past y g e = grind (arith, ints)

-- a magnitude past 64 bits is outside them with either sign
signed_out : (negative : Bool) (x : ℕ) → 2 ^ 64 ≤ x → is_within (cond negative (neg_ℤ (pos x)) (pos x)) i64_part ≡ false
signed_out true x h = false_from_ne_true _ (past x h)
signed_out false x h = grind (arith, nat_tests)

module _ (d : ℕ) (range : Option (List (ℤ × ℤ))) (text : List ℕ) where
  abbrev t : TypeOfLeaf
  t = record { kind = decimal d; limits = range }

  pub decimal_bad : None ≡ option_map (λ m. min m (2 ^ 64)) (magnitude_of d (without_leading_sign text)) → Err BadText ≡ reading t text
  unfolding spelled
  decimal_bad e = sym (reading_none t text (rw (option_none (magnitude_of d (without_leading_sign text)) e) refl))

  spelled_decimal : (x : ℕ) → magnitude_of d (without_leading_sign text) ≡ Some x → spelled (decimal d) text ≡ Some (Decimal (with_sign text x) d)
  unfolding spelled
  spelled_decimal x e = rw e refl

  -- the test of a magnitude that stopped growing is the test of the magnitude
  test_alike : (test : Bool) (x m : ℕ) → m ≡ min x (2 ^ 64) → is_within (with_sign text m) i64_part && meets_range range (with_sign text m) ≡ test → is_within (with_sign text x) i64_part && meets_range range (with_sign text x) ≡ test
  test_alike test x m e f = elim (cases_lt x (2 ^ 64)) [
    | inl lt ↦ (let g : x ≡ m = omega arith in rw g f)
    | inr ge ↦ (let g : 2 ^ 64 ≤ m = omega arith in
        let a = signed_out (starts_with_minus text) x ge in
        let b = signed_out (starts_with_minus text) m g in
        rw a (rw b at f))
  ]

  pub decimal_out : (x m : ℕ) → magnitude_of d (without_leading_sign text) ≡ Some x → m ≡ min x (2 ^ 64) → is_within (with_sign text m) i64_part && meets_range range (with_sign text m) ≡ false → Err OutOfRange ≡ reading t text
  decimal_out x m s e f = sym (reading_out t text _ (spelled_decimal x s) (test_alike false x m e f))

  pub decimal_in : (x m : ℕ) → magnitude_of d (without_leading_sign text) ≡ Some x → m ≡ min x (2 ^ 64) → is_within (with_sign text m) i64_part && meets_range range (with_sign text m) ≡ true → Ok (Decimal (with_sign text m) d) ≡ reading t text
  decimal_in x m s e f = elim (cases_lt x (2 ^ 64)) [
    | inl lt ↦ (let g : m ≡ x = omega arith in ap (λ (n : ℕ). Ok (Decimal (with_sign text n) d)) g ∙ sym (reading_some t text _ (spelled_decimal x s) (test_alike true x m e f)))
    | inr ge ↦ (let g : 2 ^ 64 ≤ m = omega arith in
        let b = signed_out (starts_with_minus text) m g in
        absurd (false≢true (sym (rw b refl) ∙ f)))
  ]

-- a number within 64 bits fits them
fits_64 : (z : ℤ) → is_within z i64_part ≡ true → FitsSigned w64 z
fits_64 z e = grind (arith, ints)

pub Decimal-passed : (n z : ℤ) (d : ℕ) (rest : Bool) → n ≡ z → FitsSigned w128 z → is_within z i64_part && rest ≡ true → Decimal (to_z w64 (of_z w64 (to_z w128 (of_z w128 n)))) d ≡ Decimal z d
Decimal-passed n z d rest e fz w =
    let f = fits_64 z (and_parts (is_within z i64_part) rest w).0 in
    let p : to_z w128 (of_z w128 n) ≡ z = ap (λ (a : ℤ). to_z w128 (of_z w128 a)) e ∙ to_z-of_z w128 z fz in
    ap (λ (a : ℤ). Decimal (to_z w64 (of_z w64 a)) d) p ∙ ap (λ (a : ℤ). Decimal a d) (to_z-of_z w64 z f)

-- a magnitude of at most 2 ^ 64 fits 128 bits with either sign
signed_fits : (negative : Bool) (m : ℕ) → m ≤ 2 ^ 64 → FitsSigned w128 (cond negative (neg_ℤ (pos m)) (pos m))
signed_fits true m h = grind (arith, ints)
signed_fits false m h = grind (arith, ints)

pub with_sign-fits : (text : List ℕ) (m : ℕ) → m ≤ 2 ^ 64 → FitsSigned w128 (with_sign text m)
with_sign-fits text m h = signed_fits (starts_with_minus text) m h

pub lowest_fits : FitsSigned w128 (negsuc 9223372036854775807)
lowest_fits = search rules

pub highest_fits : FitsSigned w128 (pos 9223372036854775807)
highest_fits = search rules
