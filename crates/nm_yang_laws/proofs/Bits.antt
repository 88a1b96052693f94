-- Bits in order of position.
use Rattle.std.proofs.Common.{◌≡◌, ℕ, ◌≤◌, Bool, true, false, List, [], ◌∷◌, map, refl, sym, ap, ◌∙◌, inl, inr, arith}
use Rattle.std.specs.Prelude.{nat_lt, fold, ◌||◌}
use Rattle.std.specs.List.{list_any}
use Rattle.std.proofs.lemmas.Bool.{cases_Bool}
use Rattle.std.proofs.lemmas.Bool.Decides.{nat_tests}
use Rattle.nm_schema_derive.specs.declared.members.Member.{Member}
use Rattle.nm_schema_derive.specs.Order.{bit_of, insert_bit, in_order}
use Rattle.nm_yang_laws.specs.Rising.{IsAbove, Rise}

abbrev Bit : Type 0
Bit = List ℕ × ℕ

above_lower : (n m : ℕ) (bs : List Bit) → n ≤ m → IsAbove m bs → IsAbove n bs
above_lower n m [] l h = tt
above_lower n m (b ∷ bs) l h = let first : m ≤ b.1 = h.0 in (omega arith, above_lower n m bs l h.1)

above_insert : (n : ℕ) (s : List Bit) (b : Bit) → n ≤ b.1 → IsAbove n s → IsAbove n (insert_bit s b)
unfolding insert_bit
above_insert n [] b l h = (l, tt)
above_insert n (c ∷ cs) b l h = elim (cases_Bool (nat_lt b.1 c.1)) [
  | inl before ↦ rw before (l, h)
  | inr behind ↦ rw behind (h.0, above_insert n cs b l h.1)
]

rise_insert : (s : List Bit) (b : Bit) → Rise s → Rise (insert_bit s b)
unfolding insert_bit
rise_insert [] b h = (tt, tt)
rise_insert (c ∷ cs) b h = elim (cases_Bool (nat_lt b.1 c.1)) [
  | inl before ↦ (let l : b.1 ≤ c.1 = grind (arith, nat_tests) in rw before ((l, above_lower b.1 c.1 cs l h.0), h))
  | inr behind ↦ (let l : c.1 ≤ b.1 = grind (arith, nat_tests) in rw behind (above_insert c.1 cs b l h.0, rise_insert cs b h.1))
]

rise_fold : (s bs : List Bit) → Rise s → Rise (fold insert_bit s bs)
rise_fold s [] h = h
rise_fold s (b ∷ bs) h = rise_fold (insert_bit s b) bs (rise_insert s b h)

pub rise : (members : List Member) → Rise (in_order (map bit_of members))
unfolding in_order
rise members = rise_fold [] (map bit_of members) tt

swapped : (a b c : Bool) → (a || (b || c)) ≡ (b || (a || c))
swapped true true c = refl
swapped true false c = refl
swapped false true c = refl
swapped false false c = refl

any_insert : (test : Bit → Bool) (s : List Bit) (b : Bit) → list_any test (insert_bit s b) ≡ (test b || list_any test s)
unfolding insert_bit
any_insert test [] b = refl
any_insert test (c ∷ cs) b = elim (cases_Bool (nat_lt b.1 c.1)) [
  | inl before ↦ rw before refl
  | inr behind ↦ rw behind (ap (λ (t : Bool). test c || t) (any_insert test cs b) ∙ swapped (test c) (test b) (list_any test cs))
]

any_fold : (test : Bit → Bool) (s bs : List Bit) → list_any test (fold insert_bit s bs) ≡ (list_any test bs || list_any test s)
any_fold test s [] = refl
any_fold test s (b ∷ bs) = any_fold test (insert_bit s b) bs ∙ ap (λ (t : Bool). list_any test bs || t) (any_insert test s b) ∙ moved (list_any test bs) (test b) (list_any test s)
  where
    moved : (a b c : Bool) → (a || (b || c)) ≡ ((b || a) || c)
    moved true true c = refl
    moved true false c = refl
    moved false true c = refl
    moved false false c = refl

none : (a : Bool) → (a || false) ≡ a
none true = refl
none false = refl

pub stay : (members : List Member) (test : List ℕ × ℕ → Bool) → list_any test (in_order (map bit_of members)) ≡ list_any test (map bit_of members)
unfolding in_order
stay members test = any_fold test [] (map bit_of members) ∙ none (list_any test (map bit_of members))
