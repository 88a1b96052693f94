-- Parts within others: what the walk along the base says of each number.
use Rattle.std.proofs.Common.{◌≡◌, ℕ, ◌+◌, ◌<◌, ◌≤◌, suc, not, Bool, true, false, List, [], ◌∷◌, length, get_or, drop, Option, Some, None, ℤ, pos, ◌+ℤ◌, ◌≤ℤ◌, ◌<ℤ◌, FitsSigned, to_z, of_z, arith, add-one, refl, ap, sym, ◌∙◌, inl, inr}
use Rattle.std.specs.Prelude.{int_le, int_lt, ◌&&◌, ◌||◌, All, is_some}
use Rattle.std.specs.List.{list_all, list_any}
use Rattle.std.proofs.Math.Seq.{drop-cons}
use Rattle.std.proofs.lemmas.Bool.{cases_Bool, and_parts}
use Rattle.std.proofs.lemmas.Int.{ints, to_z-of_z}
use Rattle.std.specs.Int.{w128}
use Rattle.std.proofs.lemmas.List.Folds.{Any-from_list_any, list_any-from_Any}
use Rattle.std.proofs.lemmas.List.Elements.{All-nil, All-cons}
use Rattle.std.proofs.lemmas.List.Sums.{prefix_len-le-length, AllPass-from_list_all, list_all-from_AllPass}
use Rattle.nm_types.specs.Limits.{IsWithin, is_within}
use Rattle.nm_types.specs.Parts.{begins_above, is_ascending, reaches, place_of}
use Rattle.nm_schema_derive.specs.Cover.{IsInside, rest_from, is_inside}

cut : (ps : List (ℤ × ℤ)) (i : ℕ) (d : ℤ × ℤ) → i < length ps → drop i ps ≡ get_or ps i d ∷ drop (i + 1) ps
cut ps i d l = drop-cons ps i d l ∙ ap (λ (k : ℕ). get_or ps i d ∷ drop k ps) (sym (add-one i))

-- one part of the base further
pub rest_on : (base : List (ℤ × ℤ)) (i : ℕ) (d : ℤ × ℤ) (low high : ℤ) → i < length base → int_lt (get_or base i d).1 low ≡ false → int_lt low (get_or base i d).0 ≡ false → int_le high (get_or base i d).1 ≡ false → rest_from (drop (i + 1) base) ((get_or base i d).1 +ℤ pos 1) high ≡ rest_from (drop i base) low high
rest_on base i d low high l a b c = sym (ap (λ (ps : List (ℤ × ℤ)). rest_from ps low high) (cut base i d l) ∙ rw (a, b, c) refl)

-- where the rest of the base goes on from a part, it has above that part what the base has
pub later_rest : (base left : List (ℤ × ℤ)) (low high next end : ℤ) → low ≤ℤ high → high <ℤ next → rest_from base low high ≡ Some left → rest_from base next end ≡ rest_from left next end
later_rest [] left low high next end o l e = cc
later_rest (p ∷ ps) left low high next end o l e = elim (cases_Bool (int_lt p.1 low)) [
  | inl a ↦
      let skip : int_lt p.1 next ≡ true = grind (arith, ints) in
      rw skip (later_rest ps left low high next end o l (rw a at e))
  | inr a ↦ elim (cases_Bool (int_lt low p.0)) [
    | inl b ↦ let no : None ≡ Some left = rw (a, b) at e in cc
    | inr b ↦ elim (cases_Bool (int_le high p.1)) [
      | inl c ↦ let same : Some (p ∷ ps) ≡ Some left = rw (a, b, c) at e in let lists : p ∷ ps ≡ left = cc in ap (λ (qs : List (ℤ × ℤ)). rest_from qs next end) lists
      | inr c ↦
          let skip : int_lt p.1 next ≡ true = grind (arith, ints) in
          let on : (p.1 +ℤ pos 1) ≤ℤ high = grind (arith, ints) in
          rw skip (later_rest ps left (p.1 +ℤ pos 1) high next end on l (rw (a, b, c) at e))
    ]
  ]
]

begins_lower : (n m : ℤ) (ps : List (ℤ × ℤ)) → n ≤ℤ m → begins_above m ps ≡ true → begins_above n ps ≡ true
begins_lower n m [] o b = refl
begins_lower n m (p ∷ ps) o b = grind (arith, ints)

-- so it has all of the parts above it that the base has
pub later_inside : (base left : List (ℤ × ℤ)) (low high : ℤ) (ps : List (ℤ × ℤ)) → low ≤ℤ high → rest_from base low high ≡ Some left → begins_above high ps ≡ true → is_ascending ps ≡ true → list_all (is_inside left) ps ≡ list_all (is_inside base) ps
unfolding is_inside
later_inside base left low high [] o e b s = refl
later_inside base left low high (p ∷ ps) o e b s =
    let parts = and_parts (int_le p.0 p.1 && begins_above p.1 ps) (is_ascending ps) s in
    let ends = and_parts (int_le p.0 p.1) (begins_above p.1 ps) parts.0 in
    let above : high <ℤ p.0 = grind (arith, ints) in
    let order : high ≤ℤ p.1 = grind (arith, ints) in
    let here = later_rest base left low high p.0 p.1 o above e in
    ap (λ (r : Option (List (ℤ × ℤ))). is_some r && list_all (is_inside left) ps) (sym here)
    ∙ ap (λ (t : Bool). is_some (rest_from base p.0 p.1) && t) (later_inside base left low high ps o e (begins_lower high p.1 ps order ends.1) parts.1)

-- a part that the base lacks
pub one_outside : (base parts : List (ℤ × ℤ)) (i : ℕ) (d : ℤ × ℤ) → i < length parts → rest_from base (get_or parts i d).0 (get_or parts i d).1 ≡ None → list_all (is_inside base) (drop i parts) ≡ false
unfolding is_inside
one_outside base parts i d l e = ap (list_all (is_inside base)) (cut parts i d l) ∙ rw e refl

-- a part that the base has
pub one_inside : (base left parts : List (ℤ × ℤ)) (i : ℕ) (d : ℤ × ℤ) → i < length parts → rest_from base (get_or parts i d).0 (get_or parts i d).1 ≡ Some left → is_ascending (drop i parts) ≡ true → (is_ascending (drop (i + 1) parts) ≡ true) × (list_all (is_inside left) (drop (i + 1) parts) ≡ list_all (is_inside base) (drop i parts))
unfolding is_inside
one_inside base left parts i d l e s =
    let p = get_or parts i d in
    let ps = drop (i + 1) parts in
    let here = cut parts i d l in
    let s' : (int_le p.0 p.1 && begins_above p.1 ps) && is_ascending ps ≡ true = sym (ap is_ascending here) ∙ s in
    let split = and_parts (int_le p.0 p.1 && begins_above p.1 ps) (is_ascending ps) s' in
    let ends = and_parts (int_le p.0 p.1) (begins_above p.1 ps) split.0 in
    let order : p.0 ≤ℤ p.1 = grind (arith, ints) in
    let rest = later_inside base left p.0 p.1 ps order e ends.1 split.1 in
    (split.1, rest ∙ sym (ap (list_all (is_inside base)) here ∙ rw e refl))

-- ---- each number

or_true : (a : Bool) → a || true ≡ true
or_true true = refl
or_true false = refl

only_later : (a b : Bool) → a ≡ false → a || b ≡ true → b ≡ true
only_later a b e h = rw e at h

-- what the walk finds has each number
has_each : (base left : List (ℤ × ℤ)) (low high : ℤ) → rest_from base low high ≡ Some left → (n : ℤ) → low ≤ℤ n → n ≤ℤ high → list_any (is_within n) base ≡ true
has_each [] left low high e n a b = cc
has_each (p ∷ ps) left low high e n a b = elim (cases_Bool (int_lt p.1 low)) [
  | inl c ↦ rw (has_each ps left low high (rw c at e) n a b) (or_true (is_within n p))
  | inr c ↦ elim (cases_Bool (int_lt low p.0)) [
    | inl d ↦ let no : None ≡ Some left = rw (c, d) at e in cc
    | inr d ↦ elim (cases_Bool (int_le n p.1)) [
      | inl f ↦ let here : is_within n p ≡ true = grind (arith, ints) in rw here refl
      | inr f ↦ elim (cases_Bool (int_le high p.1)) [
        | inl g ↦ absurd (grind (arith, ints))
        | inr g ↦ let from : (p.1 +ℤ pos 1) ≤ℤ n = grind (arith, ints) in rw (has_each ps left (p.1 +ℤ pos 1) high (rw (c, d, g) at e) n from b) (or_true (is_within n p))
      ]
    ]
  ]
]

-- parts that begin above a number have none up to it
none_below : (ps : List (ℤ × ℤ)) (n m : ℤ) → n ≤ℤ m → begins_above m ps ≡ true → is_ascending ps ≡ true → list_any (is_within n) ps ≡ false
none_below [] n m o b s = refl
none_below (p ∷ ps) n m o b s =
    let parts = and_parts (int_le p.0 p.1 && begins_above p.1 ps) (is_ascending ps) s in
    let ends = and_parts (int_le p.0 p.1) (begins_above p.1 ps) parts.0 in
    let order : n ≤ℤ p.1 = grind (arith, ints) in
    let here : is_within n p ≡ false = grind (arith, ints) in
    rw here (none_below ps n p.1 order ends.1 parts.1)

-- the walk finds what has each number
finds_each : (base : List (ℤ × ℤ)) (low high : ℤ) → is_ascending base ≡ true → low ≤ℤ high → ((n : ℤ) → low ≤ℤ n → n ≤ℤ high → list_any (is_within n) base ≡ true) → is_some (rest_from base low high) ≡ true
finds_each [] low high s o h = let at : low ≤ℤ low = grind (arith, ints) in h low at o
finds_each (p ∷ ps) low high s o h =
    let parts = and_parts (int_le p.0 p.1 && begins_above p.1 ps) (is_ascending ps) s in
    let ends = and_parts (int_le p.0 p.1) (begins_above p.1 ps) parts.0 in
    elim (cases_Bool (int_lt p.1 low)) [
      | inl c ↦ rw c (finds_each ps low high parts.1 o (λ n a b. let out : is_within n p ≡ false = grind (arith, ints) in only_later (is_within n p) (list_any (is_within n) ps) out (h n a b)))
      | inr c ↦ elim (cases_Bool (int_lt low p.0)) [
        | inl d ↦
            let at : low ≤ℤ low = grind (arith, ints) in
            let under : low ≤ℤ p.1 = grind (arith, ints) in
            let out : is_within low p ≡ false = grind (arith, ints) in
            let none = none_below ps low p.1 under ends.1 parts.1 in
            let some = only_later (is_within low p) (list_any (is_within low) ps) out (h low at o) in
            cc
        | inr d ↦ elim (cases_Bool (int_le high p.1)) [
          | inl e ↦ rw (c, d, e) refl
          | inr e ↦
              let on : (p.1 +ℤ pos 1) ≤ℤ high = grind (arith, ints) in
              rw (c, d, e) (finds_each ps (p.1 +ℤ pos 1) high parts.1 on (λ n a b.
              let from : low ≤ℤ n = grind (arith, ints) in
              let out : is_within n p ≡ false = grind (arith, ints) in
              only_later (is_within n p) (list_any (is_within n) ps) out (h n from b)))
        ]
      ]
    ]

-- the number above one that is not the highest fits where the highest does
pub step_up : (n high : ℤ) → FitsSigned w128 n → FitsSigned w128 high → int_le high n ≡ false → to_z w128 (of_z w128 (to_z w128 (of_z w128 n) +ℤ pos 1)) ≡ n +ℤ pos 1
step_up n high a b e =
    let fits : FitsSigned w128 (n +ℤ pos 1) = grind (arith, ints) in
    ap (λ (z : ℤ). to_z w128 (of_z w128 (z +ℤ pos 1))) (to_z-of_z w128 n a) ∙ to_z-of_z w128 (n +ℤ pos 1) fits

-- ---- the same as facts

within_from : (n : ℤ) (part : ℤ × ℤ) → is_within n part ≡ true → IsWithin n part
within_from n part e =
    let ends = and_parts (int_le part.0 n) (int_le n part.1) e in
    let low : part.0 ≤ℤ n = grind (arith, ints) in
    let high : n ≤ℤ part.1 = grind (arith, ints) in
    (low, high)

within_to : (n : ℤ) (part : ℤ × ℤ) → IsWithin n part → is_within n part ≡ true
within_to n part h =
    let low : part.0 ≤ℤ n = h.0 in
    let high : n ≤ℤ part.1 = h.1 in
    grind (arith, ints)

some_left : (o : Option (List (ℤ × ℤ))) → is_some o ≡ true → (left : List (ℤ × ℤ)) × (o ≡ Some left)
some_left None e = cc
some_left (Some left) e = (left, refl)

pub inside_from : (base : List (ℤ × ℤ)) (part : ℤ × ℤ) → is_inside base part ≡ true → IsInside base part
unfolding is_inside
inside_from base part e = λ n w.
    let rest = some_left (rest_from base part.0 part.1) e in
    let any = Any-from_list_any (is_within n) base (has_each base rest.0 part.0 part.1 rest.1 n w.0 w.1) in
    (any.0, any.1, any.2, any.3, within_from n any.1 any.4)

pub inside_to : (base : List (ℤ × ℤ)) (part : ℤ × ℤ) → is_ascending base ≡ true → part.0 ≤ℤ part.1 → IsInside base part → is_inside base part ≡ true
unfolding is_inside
inside_to base part s o h = finds_each base part.0 part.1 s o (λ n a b.
    let any = h n (a, b) in
    list_any-from_Any (is_within n) base (any.0, any.1, any.2, any.3, within_to n any.1 any.4))

pub all_inside_from : (base parts : List (ℤ × ℤ)) → list_all (is_inside base) parts ≡ true → All (IsInside base) parts
all_inside_from base parts e = λ k d l. inside_from base (get_or parts k d) (AllPass-from_list_all (is_inside base) parts e k d l)

abbrev IsOrdered : ℤ × ℤ → Type 0
IsOrdered part = part.0 ≤ℤ part.1

ordered_at : (parts : List (ℤ × ℤ)) → is_ascending parts ≡ true → All IsOrdered parts
ordered_at [] s = All-nil IsOrdered
ordered_at (p ∷ ps) s =
    let parts = and_parts (int_le p.0 p.1 && begins_above p.1 ps) (is_ascending ps) s in
    let ends = and_parts (int_le p.0 p.1) (begins_above p.1 ps) parts.0 in
    let order : p.0 ≤ℤ p.1 = grind (arith, ints) in
    All-cons IsOrdered p ps order (ordered_at ps parts.1)

pub all_inside_to : (base parts : List (ℤ × ℤ)) → is_ascending base ≡ true → is_ascending parts ≡ true → All (IsInside base) parts → list_all (is_inside base) parts ≡ true
all_inside_to base parts s t h = list_all-from_AllPass (is_inside base) parts (λ k d l. inside_to base (get_or parts k d) s (ordered_at parts t k d l) (h k d l))

-- ---- a walk that begins where a part does

-- the place is one of the parts, or behind them
pub place_within : (ps : List (ℤ × ℤ)) (low : ℤ) → place_of ps low ≤ length ps
unfolding place_of
place_within ps low = prefix_len-le-length (λ part. not (reaches low part)) ps

-- parts that end below a number are passed by
pub passed : (ps : List (ℤ × ℤ)) (low high : ℤ) → rest_from (drop (place_of ps low) ps) low high ≡ rest_from ps low high
unfolding place_of
passed [] low high = refl
passed (p ∷ ps) low high = elim (cases_Bool (int_lt p.1 low)) [
  | inl a ↦ (let more : 1 + place_of ps low ≡ suc (place_of ps low) = omega arith in rw a (ap (λ (k : ℕ). rest_from (drop k (p ∷ ps)) low high) more ∙ passed ps low high))
  | inr a ↦ (let first : place_of (p ∷ ps) low ≡ 0 = rw a refl in ap (λ (k : ℕ). rest_from (drop k (p ∷ ps)) low high) first)
]

-- where the rest of the base goes on from, it ascends
pub left_ascends : (base left : List (ℤ × ℤ)) (low high : ℤ) → is_ascending base ≡ true → rest_from base low high ≡ Some left → is_ascending left ≡ true
left_ascends [] left low high s e = absurd (cc)
left_ascends (p ∷ ps) left low high s e =
    let parts = and_parts (int_le p.0 p.1 && begins_above p.1 ps) (is_ascending ps) s in
    elim (cases_Bool (int_lt p.1 low)) [
      | inl a ↦ left_ascends ps left low high parts.1 (rw a at e)
      | inr a ↦ elim (cases_Bool (int_lt low p.0)) [
        | inl b ↦ let no : None ≡ Some left = rw (a, b) at e in absurd (cc)
        | inr b ↦ elim (cases_Bool (int_le high p.1)) [
          | inl c ↦ let same : Some (p ∷ ps) ≡ Some left = rw (a, b, c) at e in let lists : p ∷ ps ≡ left = cc in ap is_ascending (sym lists) ∙ s
          | inr c ↦ left_ascends ps left (p.1 +ℤ pos 1) high parts.1 (rw (a, b, c) at e)
        ]
      ]
    ]
