-- Searches in parts that ascend.
use Rattle.std.proofs.Common.{◌≡◌, ℕ, zero, suc, ◌+◌, ◌<◌, ◌≤◌, true, false, List, [], ◌∷◌, length, get_or, Option, ℤ, pos, ◌≤ℤ◌, arith, ap, refl, sym, ◌∙◌, inl, inr}
use Rattle.std.specs.Prelude.{int_le, int_lt, ◌&&◌, slice_get}
use Rattle.std.specs.List.{list_any, position_or_len}
use Rattle.std.specs.Option.{option_map_or}
use Rattle.std.specs.List.Sorted.{IsPartitionedBy, IsPartitionPoint}
use Rattle.std.proofs.lemmas.Bool.{cases_Bool, and_parts}
use Rattle.std.proofs.lemmas.Int.{ints}
use Rattle.std.proofs.lemmas.List.Sums.{position_or_len_is}
use Rattle.nm_types.specs.Limits.{is_within}
use Rattle.nm_types.specs.Parts.{begins_above, is_ascending, reaches, place_of}

-- parts that begin above a number have none up to it
pub none_below : (ps : List (ℤ × ℤ)) (n m : ℤ) → n ≤ℤ m → begins_above m ps ≡ true → is_ascending ps ≡ true → list_any (is_within n) ps ≡ false
none_below [] n m o b s = refl
none_below (p ∷ ps) n m o b s =
    let parts = and_parts (int_le p.0 p.1 && begins_above p.1 ps) (is_ascending ps) s in
    let ends = and_parts (int_le p.0 p.1) (begins_above p.1 ps) parts.0 in
    let order : n ≤ℤ p.1 = grind (arith, ints) in
    let here : is_within n p ≡ false = grind (arith, ints) in
    rw here (none_below ps n p.1 order ends.1 parts.1)

-- the parts behind one end at or above its end
ends_above : (n : ℤ) (ps : List (ℤ × ℤ)) (j : ℕ) (d : ℤ × ℤ) → begins_above n ps ≡ true → is_ascending ps ≡ true → j < length ps → n ≤ℤ (get_or ps j d).1
ends_above n [] j d b s h = absurd (omega (arith, h))
ends_above n (p ∷ ps) zero d b s h =
    let parts = and_parts (int_le p.0 p.1 && begins_above p.1 ps) (is_ascending ps) s in
    let ends = and_parts (int_le p.0 p.1) (begins_above p.1 ps) parts.0 in
    grind (arith, ints)
ends_above n (p ∷ ps) (suc j) d b s h =
    let parts = and_parts (int_le p.0 p.1 && begins_above p.1 ps) (is_ascending ps) s in
    let ends = and_parts (int_le p.0 p.1) (begins_above p.1 ps) parts.0 in
    let order : n ≤ℤ p.1 = grind (arith, ints) in
    let above = ends_above p.1 ps j d ends.1 parts.1 (omega (arith, h)) in
    grind (arith, ints)

-- those that end below a number stand before the others
pub below_first : (ps : List (ℤ × ℤ)) (z : ℤ) → is_ascending ps ≡ true → IsPartitionedBy (λ part. int_lt part.1 z) ps
below_first [] z s i j d le lt e = absurd (omega (arith, lt))
below_first (p ∷ ps) z s zero zero d le lt e = e
below_first (p ∷ ps) z s zero (suc j) d le lt e =
    let parts = and_parts (int_le p.0 p.1 && begins_above p.1 ps) (is_ascending ps) s in
    let ends = and_parts (int_le p.0 p.1) (begins_above p.1 ps) parts.0 in
    let above = ends_above p.1 ps j d ends.1 parts.1 (omega (arith, lt)) in
    grind (arith, ints)
below_first (p ∷ ps) z s (suc i) zero d le lt e = absurd (omega (arith, le))
below_first (p ∷ ps) z s (suc i) (suc j) d le lt e =
    let parts = and_parts (int_le p.0 p.1 && begins_above p.1 ps) (is_ascending ps) s in
    below_first ps z parts.1 i j d (omega (arith, le)) (omega (arith, lt)) e

-- where the search ends
pub place_found : (ps : List (ℤ × ℤ)) (z : ℤ) (i : ℕ) → i ≤ length ps → IsPartitionPoint (λ part. int_lt part.1 z ≡ true) (λ part. int_lt part.1 z ≡ false) ps i → i ≡ place_of ps z
unfolding place_of
place_found ps z i h point =
    let d : ℤ × ℤ = (pos 0, pos 0) in
    sym (position_or_len_is (reaches z) ps i d h (λ k l. let e = point.0 k d (omega arith) l in rw e refl) (λ l. let e = point.1 i d (omega arith) l in rw e refl))

-- what the search answers is whether a part has the number
pub searched : (ps : List (ℤ × ℤ)) (z : ℤ) → is_ascending ps ≡ true → option_map_or (λ part. int_le part.0 z) (slice_get ps (place_of ps z)) false ≡ list_any (is_within z) ps
unfolding place_of
searched [] z s = refl
searched (p ∷ ps) z s =
    let parts = and_parts (int_le p.0 p.1 && begins_above p.1 ps) (is_ascending ps) s in
    let ends = and_parts (int_le p.0 p.1) (begins_above p.1 ps) parts.0 in
    elim (cases_Bool (int_lt p.1 z)) [
      | inl below ↦
          let out : is_within z p ≡ false = grind (arith, ints) in
          let e : 1 + position_or_len (reaches z) ps ≡ suc (position_or_len (reaches z) ps) = omega arith in
          rw (below, e, out) (searched ps z parts.1)
      | inr above ↦ elim (cases_Bool (int_le p.0 z)) [
        | inl here ↦ let up : int_le z p.1 ≡ true = grind (arith, ints) in rw (above, here, up) refl
        | inr not_here ↦
            let out : is_within z p ≡ false = grind (arith, ints) in
            let order : z ≤ℤ p.1 = grind (arith, ints) in
            let none = none_below ps z p.1 order ends.1 parts.1 in
            rw (above, not_here, none) refl
      ]
    ]

-- what is found at the place tells it
pub answered : (parts own : List (ℤ × ℤ)) (z : ℤ) (o : Option (ℤ × ℤ)) → parts ≡ own → is_ascending own ≡ true → slice_get parts (place_of parts z) ≡ o → option_map_or (λ part. int_le part.0 z) o false ≡ list_any (is_within z) own
answered parts own z o e s h =
    sym (ap (λ (x : Option (ℤ × ℤ)). option_map_or (λ (part : ℤ × ℤ). int_le part.0 z) x false) h)
    ∙ searched parts z (ap is_ascending e ∙ s)
    ∙ ap (list_any (is_within z)) e
