-- Numbers that ranges spell, as values spell them.
use Rattle.std.proofs.Common.{◌≡◌, ℕ, zero, suc, ◌<◌, ◌+◌, ◌-◌, ◌*◌, ◌^◌, ◌≤◌, Bool, true, false, cond, List, [], ◌∷◌, ◌++◌, length, Option, Some, None, option_map, ℤ, pos, neg_ℤ, ltb, ap, refl, sym, subst, ◌∙◌, arith, inl, inr}
use Rattle.std.specs.Prelude.{◌==◌, ◌&&◌, nat_lt}
use Rattle.std.specs.Char.{is_ascii_digit, digit_value}
use Rattle.std.specs.List.{position_or_len, before_first, after_first}
use Rattle.std.specs.Str.Parse.{AllDigits, IsNumeral, digits_value, digits_value_after}
use Rattle.std.proofs.lemmas.Bool.{cases_Bool}
use Rattle.std.proofs.lemmas.Bool.Decides.{nat_tests}
use Rattle.std.proofs.lemmas.Nat.{pow-add}
use Rattle.std.proofs.lemmas.Str.{digit_value_digit}
use Rattle.std.proofs.Math.Nat.{pow-suc}
use borrow.Author.Tests.{eqb-true, ltb-true, leb-true}
use Rattle.nm_base.specs.Decimal.{digits_after, number_of as digits_of}
use Rattle.nm_types.specs.Spells.{IsSigned, unsigned, minus, HasParts, pointless, pointed, SpellsInteger, SpellsDecimal}
use Rattle.nm_schema_derive.specs.declared.form.NumberForm.{NumberForm}
use Rattle.nm_schema_derive.specs.declared.form.NumberForm.TheVariants.{Integer, Decimal, Length}
use Rattle.nm_schema_derive.specs.Form.{moved, moved_if, behind, fits_point, pointed_of, scaled_of, is_point, magnitude_of, negated, signed_of, unsigned_of, may_be_signed, number_of}

-- ---- digits

some_from : (t : Bool) (x : Option ℕ) (y : ℕ) → cond t x None ≡ Some y → (t ≡ true) × (x ≡ Some y)
some_from true x y e = (refl, e)
some_from false x y e = cc

some_from_else : (t : Bool) (x : Option ℕ) (y : ℕ) → cond t None x ≡ Some y → (t ≡ false) × (x ≡ Some y)
some_from_else true x y e = cc
some_from_else false x y e = (refl, e)

same_some : {A : Type 0} (m n : A) → Some m ≡ Some n → m ≡ n
same_some m n e = cc

is_digit : (n b : ℕ) → (is_ascii_digit b && nat_lt (n * 10 + (b - 48)) (2 ^ 64)) ≡ true → (48 ≤ b) × (b ≤ 57)
is_digit n b e = grind (arith, nat_tests)

after_takes : (n : ℕ) (bs : List ℕ) (m : ℕ) → digits_after n bs ≡ Some m → AllDigits 10 bs × (digits_value_after 10 n bs ≡ m)
after_takes n [] m e = (tt, same_some n m e)
after_takes n (b ∷ bs) m e =
    let chosen = some_from _ _ m e in
    let range = is_digit n b chosen.0 in
    let value : digit_value b ≡ b - 48 = omega (arith, digit_value_digit b (range.0, range.1)) in
    let rest = after_takes (n * 10 + (b - 48)) bs m chosen.1 in
    ((omega arith, rest.0), ap (λ d. digits_value_after 10 (n * 10 + d) bs) value ∙ rest.1)

-- a text of digits spells its value
digits_spell : (text : List ℕ) (n : ℕ) → digits_of text ≡ Some n → IsNumeral 10 text × (digits_value 10 text ≡ n)
unfolding digits_of
digits_spell [] n e = cc
digits_spell (b ∷ []) n e = let t = after_takes 0 (b ∷ []) n e in ((omega arith, t.0), t.1)
digits_spell (b ∷ c ∷ bs) n e =
    let chosen = some_from_else _ _ n e in
    let t = after_takes 0 (b ∷ c ∷ bs) n chosen.1 in
    ((omega arith, t.0), t.1)

value_after_append : (n : ℕ) (a b : List ℕ) → digits_value_after 10 n (a ++ b) ≡ digits_value_after 10 (digits_value_after 10 n a) b
value_after_append n [] b = refl
value_after_append n (d ∷ a) b = value_after_append (n * 10 + digit_value d) a b

-- ---- signs

-- a magnitude that a text of a form spells, whichever sign stands before it
abbrev IsAlike : NumberForm → (List ℕ → ℤ → Type 0) → Type 0
IsAlike form spells = (rest text : List ℕ) (m : ℕ) (z : ℤ) → magnitude_of form rest ≡ Some m → IsSigned text rest m z → spells text z

mapped : {B : Type 0} (f : ℕ → B) (o : Option ℕ) (z : B) → option_map f o ≡ Some z → (m : ℕ) × (o ≡ Some m) × (f m ≡ z)
mapped f None z e = cc
mapped f (Some m) z e = (m, refl, same_some (f m) z e)

signed : (form : NumberForm) (spells : List ℕ → ℤ → Type 0) → IsAlike form spells → (rest : List ℕ) (z : ℤ) → (may : Bool) → cond may (option_map negated (magnitude_of form rest)) None ≡ Some z → spells (45 ∷ rest) z
signed form spells alike rest z false e = cc
signed form spells alike rest z true e =
    let m = mapped negated (magnitude_of form rest) z e in
    alike rest (45 ∷ rest) m.0 z m.1 (minus refl (sym m.2))

alike_all : (form : NumberForm) (spells : List ℕ → ℤ → Type 0) → IsAlike form spells → (text : List ℕ) (z : ℤ) → number_of form text ≡ Some z → spells text z
unfolding signed_of unsigned_of
alike_all form spells alike [] z e = cc
alike_all form spells alike (b ∷ bs) z e = elim (cases_Bool (b == 45)) [
  | inl t ↦ (let f = rw t at e in
      let g : b ≡ 45 = eqb-true b 45 t in
      subst (λ (c : ℕ). spells (c ∷ bs) z) (sym g) (signed form spells alike bs z (may_be_signed form) f))
  | inr t ↦ (let f = rw t at e in
      let m = mapped pos (magnitude_of form (b ∷ bs)) z f in
      alike (b ∷ bs) (b ∷ bs) m.0 z m.1 (unsigned refl (sym m.2)))
]

-- ---- integers and lengths

integer_alike : (rest text : List ℕ) (m : ℕ) (z : ℤ) → digits_of rest ≡ Some m → IsSigned text rest m z → SpellsInteger text z
integer_alike rest text m z e s =
    let d = digits_spell rest m e in
    record { digits = rest; number = d.0; signed = subst (λ (k : ℕ). IsSigned text rest k z) (sym d.1) s }

pub integers : (text : List ℕ) (z : ℤ) → number_of Integer text ≡ Some z → SpellsInteger text z
integers = alike_all Integer SpellsInteger integer_alike

positive : (text : List ℕ) (z : ℤ) → number_of Length text ≡ Some z → (n : ℕ) × (z ≡ pos n)
unfolding signed_of unsigned_of
positive [] z e = cc
positive (b ∷ bs) z e = elim (cases_Bool (b == 45)) [
  | inl t ↦ (let f = rw t at e in absurd (let g : ⊥ = cc in g))
  | inr t ↦ (let f = rw t at e in
      let m = mapped pos (digits_of (b ∷ bs)) z f in
      (m.0, sym m.2))
]

pub lengths : (text : List ℕ) (z : ℤ) → number_of Length text ≡ Some z → SpellsInteger text z × ((n : ℕ) × (z ≡ pos n))
lengths text z e = (alike_all Length SpellsInteger integer_alike text z e, positive text z e)

-- ---- decimals

moved_is : (places n m : ℕ) → moved places n ≡ Some m → m ≡ n * 10 ^ places
moved_is zero n m e = let s = same_some n m e in omega arith
moved_is (suc places) n m e =
    let chosen = some_from _ _ m e in
    let r = moved_is places (n * 10) m chosen.1 in
    let p : 10 ^ suc places ≡ 10 ^ places * 10 = pow-suc 10 places in
    let q : n * (10 ^ places * 10) ≡ n * 10 * 10 ^ places = omega arith in
    r ∙ sym q ∙ ap (λ (k : ℕ). n * k) (sym p)

moved_of : (places : ℕ) (o : Option ℕ) (m : ℕ) → moved_if places o ≡ Some m → (n : ℕ) × (o ≡ Some n) × (m ≡ n * 10 ^ places)
moved_of places None m e = cc
moved_of places (Some n) m e = (n, refl, moved_is places n m e)

behind_of : (part : List ℕ) (o : Option ℕ) (n : ℕ) → behind part o ≡ Some n → (w : ℕ) × (o ≡ Some w) × (digits_after w part ≡ Some n)
behind_of part None n e = cc
behind_of part (Some w) n e = (w, refl, e)

point_fits : (digits : ℕ) (part : List ℕ) → fits_point digits part ≡ true → (0 < length part) × (length part ≤ digits)
point_fits digits [] e = cc
point_fits digits (b ∷ bs) e = let l : length bs < digits = ltb-true (length bs) digits e in (omega arith, omega (arith, l))

first_point : (xs : List ℕ) → position_or_len is_point xs < length xs → xs ≡ before_first is_point xs ++ 46 ∷ after_first is_point xs
first_point [] h = absurd (omega (arith, h))
first_point (x ∷ xs) h = elim (cases_Bool (x == 46)) [
  | inl e ↦ (let f : x ≡ 46 = eqb-true x 46 e in rw e (ap (λ (c : ℕ). c ∷ xs) f))
  | inr e ↦ (let n = position_or_len is_point xs in
      let one : 1 + n ≡ suc n = omega arith in
      let g = rw (e, one) at h in
      let below : n < length xs = omega (arith, g) in
      let two : suc n + 1 ≡ suc (n + 1) = omega arith in
      rw (e, one, two) (ap (λ (l : List ℕ). x ∷ l) (first_point xs below)))
]

-- the parts of a decimal, and its scaled value
record Parts (digits : ℕ) (rest : List ℕ) (m : ℕ) : Type 0 where
  pub whole : List ℕ
  pub part : List ℕ
  pub number : IsNumeral 10 whole
  pub parts : HasParts rest whole part
  pub same : digits_value 10 (whole ++ part) * 10 ^ digits ≡ m * 10 ^ length part

powers : (d k v : ℕ) → k ≤ d → v * 10 ^ d ≡ v * 10 ^ (d - k) * 10 ^ k
powers d k v le =
    let s : d ≡ (d - k) + k = omega arith in
    let p : 10 ^ ((d - k) + k) ≡ 10 ^ (d - k) * 10 ^ k = pow-add 10 (d - k) k in
    let q : v * (10 ^ (d - k) * 10 ^ k) ≡ v * 10 ^ (d - k) * 10 ^ k = omega arith in
    ap (λ (n : ℕ). v * 10 ^ n) s ∙ ap (λ (n : ℕ). v * n) p ∙ q

with_point : (d : ℕ) (rest whole part : List ℕ) (m : ℕ) → rest ≡ whole ++ 46 ∷ part → pointed_of d whole part ≡ Some m → Parts d rest m
unfolding pointed_of
with_point d rest whole part m cut e =
    let chosen = some_from _ _ m e in
    let fits = point_fits d part chosen.0 in
    let up = moved_of (d - length part) _ m chosen.1 in
    let both = behind_of part _ up.0 up.1 in
    let front = digits_spell whole both.0 both.1 in
    let back = after_takes both.0 part up.0 both.2 in
    let value : digits_value 10 (whole ++ part) ≡ up.0 = value_after_append 0 whole part ∙ ap (λ (n : ℕ). digits_value_after 10 n part) front.1 ∙ back.1 in
    record {
      whole = whole;
      part = part;
      number = front.0;
      parts = pointed cut (fits.0, back.0);
      same = ap (λ (n : ℕ). n * 10 ^ d) value ∙ powers d (length part) up.0 fits.1 ∙ ap (λ (n : ℕ). n * 10 ^ length part) (sym up.2);
    }

append_none : (xs : List ℕ) → xs ++ [] ≡ xs
append_none [] = refl
append_none (x ∷ xs) = ap (λ (l : List ℕ). x ∷ l) (append_none xs)

without_point : (d : ℕ) (rest : List ℕ) (m : ℕ) → moved_if d (digits_of rest) ≡ Some m → Parts d rest m
without_point d rest m e =
    let up = moved_of d _ m e in
    let all = digits_spell rest up.0 up.1 in
    let value : digits_value 10 (rest ++ []) ≡ up.0 = ap (digits_value 10) (append_none rest) ∙ all.1 in
    let one : m * 10 ^ 0 ≡ m = omega arith in
    record { whole = rest; part = []; number = all.0; parts = pointless refl refl; same = ap (λ (n : ℕ). n * 10 ^ d) value ∙ sym up.2 ∙ sym one }

decimal_parts : (d : ℕ) (rest : List ℕ) (m : ℕ) → scaled_of d rest ≡ Some m → Parts d rest m
unfolding scaled_of
decimal_parts d rest m e =
    let few = some_from_else (nat_lt 18 d) _ m e in
    elim (cases_Bool (nat_lt (position_or_len is_point rest) (length rest))) [
      | inl t ↦ (let f = rw t at few.1 in with_point d rest (before_first is_point rest) (after_first is_point rest) m (first_point rest (ltb-true _ _ t)) f)
      | inr t ↦ (let f = rw t at few.1 in without_point d rest m f)
    ]

decimal_alike : (d : ℕ) (rest text : List ℕ) (m : ℕ) (z : ℤ) → scaled_of d rest ≡ Some m → IsSigned text rest m z → SpellsDecimal d text z
decimal_alike d rest text m z e s =
    let p = decimal_parts d rest m e in
    record { rest = rest; whole = p.whole; part = p.part; scaled = m; number = p.number; parts = p.parts; same = p.same; signed = s }

pub decimals : (digits : ℕ) (text : List ℕ) (z : ℤ) → number_of (Decimal digits) text ≡ Some z → SpellsDecimal digits text z
decimals digits = alike_all (Decimal digits) (SpellsDecimal digits) (decimal_alike digits)
