-- A stable sort by position gives the bits in order.
use Rattle.std.proofs.Common.{◌≡◌, ℕ, suc, ◌<◌, ◌≤◌, Bool, true, false, List, [], ◌∷◌, ◌++◌, filter, fold, length, get_or, nat_cmp, refl, sym, ap, ◌∙◌, append_assoc, inl, inr, arith}
use Rattle.std.specs.Prelude.{nat_lt, ⊤}
use Rattle.std.specs.Ordering.{is_lt}
use Rattle.std.specs.List.Sorted.{IsNonDecreasingBy, IsStableByKey, ties}
use Rattle.std.proofs.lemmas.Bool.{cases_Bool}
use Rattle.std.proofs.lemmas.Bool.Decides.{nat_tests}
use Rattle.std.proofs.lemmas.List.{append-nil}
use Rattle.nm_schema_derive.specs.Order.{insert_bit, in_order}

abbrev Bit : Type 0
Bit = List ℕ × ℕ

-- no bit has a position below a number
abbrev IsAbove : ℕ → List Bit → Type 0
IsAbove n [] = ⊤
IsAbove n (b ∷ bs) = (n ≤ b.1) × IsAbove n bs

-- positions don't fall
abbrev Rises : List Bit → Type 0
Rises [] = ⊤
Rises (b ∷ bs) = IsAbove b.1 bs × Rises bs

above_lower : (n m : ℕ) (bs : List Bit) → n ≤ m → IsAbove m bs → IsAbove n bs
above_lower n m [] l h = tt
above_lower n m (b ∷ bs) l h = let first : m ≤ b.1 = h.0 in (omega arith, above_lower n m bs l h.1)

above_insert : (n : ℕ) (s : List Bit) (b : Bit) → n ≤ b.1 → IsAbove n s → IsAbove n (insert_bit s b)
unfolding insert_bit
above_insert n [] b l h = (l, tt)
above_insert n (c ∷ cs) b l h = elim (cases_Bool (nat_lt b.1 c.1)) [
  | inl before ↦ rw before (l, h)
  | inr behind ↦ rw behind (h.0, above_insert n cs b l h.1)
]

rises_insert : (s : List Bit) (b : Bit) → Rises s → Rises (insert_bit s b)
unfolding insert_bit
rises_insert [] b h = (tt, tt)
rises_insert (c ∷ cs) b h = elim (cases_Bool (nat_lt b.1 c.1)) [
  | inl before ↦ (let l : b.1 ≤ c.1 = grind (arith, nat_tests) in rw before ((l, above_lower b.1 c.1 cs l h.0), h))
  | inr behind ↦ (let l : c.1 ≤ b.1 = grind (arith, nat_tests) in rw behind (above_insert c.1 cs b l h.0, rises_insert cs b h.1))
]

rises_fold : (s bs : List Bit) → Rises s → Rises (fold insert_bit s bs)
rises_fold s [] h = h
rises_fold s (b ∷ bs) h = rises_fold (insert_bit s b) bs (rises_insert s b h)

-- a test of a position
module _ (at : ℕ → Bit → Bool) (own : (b : Bit) → at b.1 b ≡ true) (alone : (k : ℕ) (b : Bit) → at k b ≡ true → b.1 ≡ k) where
  none_at : (k n : ℕ) (bs : List Bit) → k < n → IsAbove n bs → filter (at k) bs ≡ []
  none_at k n [] l h = refl
  none_at k n (b ∷ bs) l h = elim (cases_Bool (at k b)) [
    | inl e ↦ (let same = alone k b e in let first : n ≤ b.1 = h.0 in absurd (omega arith))
    | inr e ↦ rw e (none_at k n bs l h.1)
  ]

  insert_at : (k : ℕ) (s : List Bit) (b : Bit) → Rises s → filter (at k) (insert_bit s b) ≡ filter (at k) s ++ filter (at k) (b ∷ [])
  unfolding insert_bit
  insert_at k [] b h = refl
  insert_at k (c ∷ cs) b h = elim (cases_Bool (nat_lt b.1 c.1)) [
    | inl before ↦ elim (cases_Bool (at k b)) [
      | inl e ↦ (
          let same = alone k b e in
          let l : k < c.1 = grind (arith, nat_tests) in
          let none : filter (at k) (c ∷ cs) ≡ [] = none_at k c.1 (c ∷ cs) l (omega arith, h.0) in
          rw before (rw e (ap (λ (r : List Bit). b ∷ r) none ∙ ap (λ (r : List Bit). r ++ b ∷ []) (sym none))))
      | inr e ↦ rw before (rw e (sym (append-nil (filter (at k) (c ∷ cs)))))
    ]
    | inr behind ↦ elim (cases_Bool (at k c)) [
      | inl e ↦ rw behind (rw e (ap (λ (r : List Bit). c ∷ r) (insert_at k cs b h.1)))
      | inr e ↦ rw behind (rw e (insert_at k cs b h.1))
    ]
  ]

  first_at : (k : ℕ) (b : Bit) (bs : List Bit) → filter (at k) (b ∷ []) ++ filter (at k) bs ≡ filter (at k) (b ∷ bs)
  first_at k b bs = elim (cases_Bool (at k b)) [
    | inl e ↦ rw e refl
    | inr e ↦ rw e refl
  ]

  fold_at : (k : ℕ) (s bs : List Bit) → Rises s → filter (at k) (fold insert_bit s bs) ≡ filter (at k) s ++ filter (at k) bs
  fold_at k s [] h = sym (append-nil (filter (at k) s))
  fold_at k s (b ∷ bs) h =
      fold_at k (insert_bit s b) bs (rises_insert s b h)
      ∙ ap (λ (r : List Bit). r ++ filter (at k) bs) (insert_at k s b h)
      ∙ append_assoc (filter (at k) s) (filter (at k) (b ∷ [])) (filter (at k) bs)
      ∙ ap (λ (r : List Bit). filter (at k) s ++ r) (first_at k b bs)

  -- a bit comes first only where it comes first at its position
  lower_out : (x y : Bit) (xs ys : List Bit) → x.1 < y.1 → IsAbove y.1 ys → filter (at x.1) (x ∷ xs) ≡ filter (at x.1) (y ∷ ys) → ⊥
  lower_out x y xs ys l h e =
      let none = none_at x.1 y.1 (y ∷ ys) l (omega arith, h) in
      let here = own x in
      let both : x ∷ filter (at x.1) xs ≡ [] = rw here at (e ∙ none) in
      cc

  same_first : (x y : Bit) (xs ys : List Bit) → x.1 ≡ y.1 → filter (at x.1) (x ∷ xs) ≡ filter (at x.1) (y ∷ ys) → x ≡ y
  same_first x y xs ys p e =
      let here = own x in
      let there : at x.1 y ≡ true = ap (λ (k : ℕ). at k y) p ∙ own y in
      let both : x ∷ filter (at x.1) xs ≡ y ∷ filter (at x.1) ys = rw (here, there) at e in
      cc

  rest_at : (k : ℕ) (x y : Bit) (xs ys : List Bit) → x ≡ y → filter (at k) (x ∷ xs) ≡ filter (at k) (y ∷ ys) → filter (at k) xs ≡ filter (at k) ys
  rest_at k x y xs ys p e = elim (cases_Bool (at k x)) [
    | inl t ↦ (
        let u : at k y ≡ true = ap (at k) (sym p) ∙ t in
        let both : x ∷ filter (at k) xs ≡ y ∷ filter (at k) ys = rw (t, u) at e in
        cc)
    | inr t ↦ (let u : at k y ≡ false = ap (at k) (sym p) ∙ t in rw (t, u) at e)
  ]

  -- lists that rise are one where they are at each position
  one_list : (xs ys : List Bit) → Rises xs → Rises ys → ((k : ℕ) → filter (at k) xs ≡ filter (at k) ys) → xs ≡ ys
  one_list [] [] r s h = refl
  one_list [] (y ∷ ys) r s h = (let here = own y in let no : [] ≡ y ∷ filter (at y.1) ys = rw here at (h y.1) in cc)
  one_list (x ∷ xs) [] r s h = (let here = own x in let no : x ∷ filter (at x.1) xs ≡ [] = rw here at (h x.1) in cc)
  one_list (x ∷ xs) (y ∷ ys) r s h = elim (cases_Bool (nat_lt x.1 y.1)) [
    | inl l ↦ absurd (lower_out x y xs ys (grind (arith, nat_tests)) s.0 (h x.1))
    | inr l ↦ elim (cases_Bool (nat_lt y.1 x.1)) [
      | inl m ↦ absurd (lower_out y x ys xs (grind (arith, nat_tests)) r.0 (sym (h y.1)))
      | inr m ↦ (
          let p : x.1 ≡ y.1 = grind (arith, nat_tests) in
          let first = same_first x y xs ys p (h x.1) in
          let rest = one_list xs ys r.1 s.1 (λ k. rest_at k x y xs ys first (h k)) in
          cc)
    ]
  ]

-- ---- what a sort promises

abbrev position : Bit → ℕ
position bit = bit.1

above_each : (n : ℕ) (bs : List Bit) → ((k : ℕ) (d : Bit) → k < length bs → n ≤ (get_or bs k d).1) → IsAbove n bs
above_each n [] h = tt
above_each n (b ∷ bs) h = (h 0 b (omega arith), above_each n bs (λ k d l. h (suc k) d (omega arith)))

rises_from : (bs : List Bit) → IsNonDecreasingBy position bs → Rises bs
rises_from [] h = tt
rises_from (b ∷ bs) h = (
  above_each b.1 bs (λ k d l. h 0 (suc k) d (omega arith) (omega arith)),
  rises_from bs (λ i j d l m. h (suc i) (suc j) d (omega arith) (omega arith)),
)

-- whether a bit has a position, as a sort by position tells bits apart
abbrev has_position : ℕ → Bit → Bool
has_position k b = ties (λ (x y : Bit). is_lt (nat_cmp x.1 y.1)) ([], k) b

has_own : (b : Bit) → has_position b.1 b ≡ true
has_own b = grind (arith, nat_tests)

has_alone : (k : ℕ) (b : Bit) → has_position k b ≡ true → b.1 ≡ k
has_alone k b e = grind (arith, nat_tests)

pub sorted_is : (all sorted : List Bit) → IsNonDecreasingBy position sorted → IsStableByKey position nat_cmp all sorted → sorted ≡ in_order all
unfolding in_order
sorted_is all sorted up stable =
    one_list has_position has_own has_alone sorted (fold insert_bit [] all) (rises_from sorted up) (rises_fold [] all tt) (λ k. stable ([], k) ∙ sym (fold_at has_position has_own has_alone k [] all tt))
