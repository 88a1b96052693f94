-- The relation of spelling and the function that reads: what the one relates, the other finds.
use Rattle.std.proofs.Common.{◌≡◌, ℕ, suc, ◌<◌, ◌+◌, ◌-◌, ◌*◌, ◌^◌, true, false, List, [], ◌∷◌, ◌++◌, length, take, drop, Option, Some, None, option_map, ℤ, ltb, ap, refl, sym, ◌∙◌, subst, arith, inl, inr, length-append}
use Rattle.std.specs.Prelude.{◌==◌, ◌&&◌}
use Rattle.std.specs.List.{list_all, position_or_len, before_first, after_first}
use Rattle.std.specs.Str.Parse.{AllDigits, IsNumeral, digits_value, without_leading_sign}
use Rattle.std.proofs.lemmas.Bool.{cases_Bool, false_from_ne_true}
use Rattle.std.proofs.lemmas.List.{append-nil}
use Rattle.std.proofs.lemmas.Str.Parse.{digit_from_value}
use borrow.Author.Tests.{eqb-true, ltb-true}
use Rattle.nm_types.specs.Spells.{IsSigned, HasParts, pointless, pointed, SpellsDecimal}
use Rattle.nm_types.specs.Reading.{is_numeral, with_sign, scaled_of, whole_of, pointed_of, is_point, magnitude_of, decimal_of}
use Rattle.nm_types.proofs.Integers.{IsNumeral-from_test, is_numeral-from_fact}
use Rattle.nm_types.proofs.Decimals.{and_parts, magnitude_pointed, magnitude_whole}
use Rattle.nm_types.proofs.Signs.{signed-view, signed-parts, DigitFirst, DigitFirst-numeral}
use Rattle.nm_types.proofs.Powers.{scaled-sound, scaled-complete}

scaled_of-sound : (d : ℕ) (whole part : List ℕ) (m : ℕ) → scaled_of d whole part ≡ Some m → digits_value 10 (whole ++ part) * 10 ^ d ≡ m * 10 ^ length part
scaled_of-sound d whole part m e = elim (cases_Bool (list_all (λ b. b == 48) (drop d part))) [
  | inl z ↦ (let f = rw z at e in
      let g : digits_value 10 (whole ++ take d part) * 10 ^ (d - length part) ≡ m = cc in
      scaled-sound d whole part z ∙ ap (λ (n : ℕ). n * 10 ^ length part) g)
  | inr z ↦ (let f = rw z at e in cc)
]

scaled_of-complete : (d : ℕ) (whole part : List ℕ) (m : ℕ) → AllDigits 10 part → digits_value 10 (whole ++ part) * 10 ^ d ≡ m * 10 ^ length part → scaled_of d whole part ≡ Some m
scaled_of-complete d whole part m h e = let p = scaled-complete d whole part m h e in rw p.0 (ap Some p.1)

-- a text is cut at its first point
first_point : (xs : List ℕ) → position_or_len is_point xs < length xs → xs ≡ before_first is_point xs ++ 46 ∷ after_first is_point xs
first_point [] h = absurd (omega (arith, h))
first_point (x ∷ xs) h = elim (cases_Bool (x == 46)) [
  | inl e ↦ (let f : x ≡ 46 = eqb-true x 46 e in rw e (ap (λ (c : ℕ). c ∷ xs) f))
  | inr e ↦ (let n = position_or_len is_point xs in
      let one : 1 + n ≡ suc n = omega arith in
      let g = rw (e, one) at h in
      let below : n < length xs = omega (arith, g) in
      let two : suc n + 1 ≡ suc (n + 1) = omega arith in
      rw (e, one, two) (ap (λ (l : List ℕ). x ∷ l) (first_point xs below)))
]

-- digits hold no point
no_point : (ds rest : List ℕ) → AllDigits 10 ds → position_or_len is_point (ds ++ rest) ≡ length ds + position_or_len is_point rest
no_point [] rest h = omega arith
no_point (d ∷ ds) rest h =
    let r = digit_from_value d h.0 in
    let e : (d == 46) ≡ false = false_from_ne_true (d == 46) (λ t. absurd (omega (arith, r.0, eqb-true d 46 t))) in
    rw e (omega (arith, no_point ds rest h.1))

cut_before : (ds rest : List ℕ) → take (length ds) (ds ++ rest) ≡ ds
cut_before [] rest = refl
cut_before (d ∷ ds) rest = ap (λ (l : List ℕ). d ∷ l) (cut_before ds rest)

cut_after : (ds rest : List ℕ) (x : ℕ) → drop (length ds + 1) (ds ++ x ∷ rest) ≡ rest
cut_after [] rest x = refl
cut_after (d ∷ ds) rest x = let e : length (d ∷ ds) + 1 ≡ suc (length ds + 1) = omega arith in rw e (cut_after ds rest x)

-- the parts that the function finds
pub record Parts (d : ℕ) (rest : List ℕ) (m : ℕ) : Type 0 where
  pub whole : List ℕ
  pub part : List ℕ
  pub number : IsNumeral 10 whole
  pub parts : HasParts rest whole part
  pub same : digits_value 10 (whole ++ part) * 10 ^ d ≡ m * 10 ^ length part

magnitude-sound : (d : ℕ) (rest : List ℕ) (m : ℕ) → magnitude_of d rest ≡ Some m → Parts d rest m
unfolding magnitude_of whole_of pointed_of
magnitude-sound d rest m e = elim (cases_Bool (ltb (position_or_len is_point rest) (length rest))) [
  | inl t ↦ (let f = rw t at e in elim (cases_Bool (is_numeral (before_first is_point rest) && is_numeral (after_first is_point rest))) [
    | inl n ↦ (let g = rw n at f in
        let p = and_parts (is_numeral (before_first is_point rest)) (is_numeral (after_first is_point rest)) n in
        record {
          whole = before_first is_point rest;
          part = after_first is_point rest;
          number = IsNumeral-from_test _ p.0;
          parts = pointed (first_point rest (ltb-true _ _ t)) (IsNumeral-from_test _ p.1);
          same = scaled_of-sound d (before_first is_point rest) (after_first is_point rest) m g;
        })
    | inr n ↦ (let g = rw n at f in cc)
  ])
  | inr t ↦ (let f = rw t at e in elim (cases_Bool (is_numeral rest)) [
    | inl n ↦ (let g = rw n at f in record { whole = rest; part = []; number = IsNumeral-from_test _ n; parts = pointless refl refl; same = scaled_of-sound d rest [] m g })
    | inr n ↦ (let g = rw n at f in cc)
  ])
]

magnitude-complete : (d : ℕ) (rest : List ℕ) (m : ℕ) (whole part : List ℕ) → IsNumeral 10 whole → digits_value 10 (whole ++ part) * 10 ^ d ≡ m * 10 ^ length part → HasParts rest whole part → magnitude_of d rest ≡ Some m
unfolding whole_of pointed_of
magnitude-complete d rest m whole part n e (pointless r p) =
    let at : position_or_len is_point rest ≡ length rest = ap (position_or_len is_point) (r ∙ sym (append-nil whole)) ∙ no_point whole [] n.1 ∙ omega (arith, ap length r) in
    let num : is_numeral rest ≡ true = ap is_numeral r ∙ is_numeral-from_fact whole n in
    let s : scaled_of d rest [] ≡ Some m = scaled_of-complete d rest [] m tt (ap (λ (l : List ℕ). digits_value 10 (l ++ []) * 10 ^ d) r ∙ ap (λ (l : List ℕ). digits_value 10 (whole ++ l) * 10 ^ d) (sym p) ∙ e ∙ ap (λ (l : List ℕ). m * 10 ^ length l) p) in
    sym (magnitude_whole d rest at) ∙ rw num s
magnitude-complete d rest m whole part n e (pointed r p) = subst (λ (l : List ℕ). magnitude_of d l ≡ Some m) (sym r) here
  where
    here : magnitude_of d (whole ++ 46 ∷ part) ≡ Some m
    here =
        let at : position_or_len is_point (whole ++ 46 ∷ part) ≡ length whole = no_point whole (46 ∷ part) n.1 ∙ omega arith in
        let within : position_or_len is_point (whole ++ 46 ∷ part) < length (whole ++ 46 ∷ part) = omega (arith, at, length-append whole (46 ∷ part)) in
        let before : before_first is_point (whole ++ 46 ∷ part) ≡ whole = ap (λ (k : ℕ). take k (whole ++ 46 ∷ part)) at ∙ cut_before whole (46 ∷ part) in
        let after : after_first is_point (whole ++ 46 ∷ part) ≡ part = ap (λ (k : ℕ). drop (k + 1) (whole ++ 46 ∷ part)) at ∙ cut_after whole part 46 in
        let s = scaled_of-complete d whole part m p.1 e in
        sym (magnitude_pointed d (whole ++ 46 ∷ part) within)
        ∙ ap (λ (l : List ℕ). pointed_of d l (after_first is_point (whole ++ 46 ∷ part))) before
        ∙ ap (pointed_of d whole) after
        ∙ rw (is_numeral-from_fact whole n, is_numeral-from_fact part p) s

pub decimal-sound : (d : ℕ) (text : List ℕ) (z : ℤ) → decimal_of d text ≡ Some z → SpellsDecimal d text z
decimal-sound d text z e = found (magnitude_of d (without_leading_sign text)) refl e
  where
    found : (o : Option ℕ) → magnitude_of d (without_leading_sign text) ≡ o → option_map (with_sign text) o ≡ Some z → SpellsDecimal d text z
    found None f g = cc
    found (Some m) f g =
        let p = magnitude-sound d (without_leading_sign text) m f in
        let s : with_sign text m ≡ z = cc in
        record { rest = without_leading_sign text; whole = p.whole; part = p.part; scaled = m; number = p.number; parts = p.parts; same = p.same; signed = subst (IsSigned text (without_leading_sign text) m) s (signed-view text m) }

digit_first : (rest whole part : List ℕ) → IsNumeral 10 whole → HasParts rest whole part → DigitFirst rest
digit_first rest whole part n (pointless r p) = subst DigitFirst (sym r) (DigitFirst-numeral whole n)
digit_first rest whole part n (pointed r p) = subst DigitFirst (sym r) (front whole n)
  where
    front : (w : List ℕ) → IsNumeral 10 w → DigitFirst (w ++ 46 ∷ part)
    front [] h = absurd (omega (arith, h.0))
    front (x ∷ xs) h = digit_from_value x h.1.0

pub decimal-complete : (d : ℕ) (text : List ℕ) (z : ℤ) → SpellsDecimal d text z → decimal_of d text ≡ Some z
decimal-complete d text z s =
    let p = signed-parts text s.rest s.scaled z (digit_first s.rest s.whole s.part s.number s.parts) s.signed in
    let m = magnitude-complete d s.rest s.scaled s.whole s.part s.number s.same s.parts in
    rw (p.0, m) (ap Some p.1)
