-- The laws of the order of values: it is total, and values that it doesn't tell apart are one value.
use Rattle.std.specs.Prelude.{◌≡◌, ◌↔◌, IsTrue, Bool, true, false, Some, refl}
use Rattle.std.proofs.Common.{sym, ◌∙◌, subst}
use Rattle.std.specs.Ordering.{eq_by_cmp, ordering_then}
use Rattle.std.specs.Cmp.{IsTotalOrder, IsEquivalence, IsPartialOrder, po}
use Rattle.std.proofs.lemmas.Cmp.{nat_cmp_total, int_cmp_total, nat_list_cmp_total, on_total, then_total, eq_by_cmp_equiv, tied_itself}
use Rattle.std.proofs.lemmas.Map.Lookups.{CmpEqualImpliesEq, exact_unsigned, exact_signed, exact_bytes}
use Rattle.std.proofs.lemmas.Map.Views.{tells_apart}
use Rattle.std.specs.declared.cmp.Ordering.{Ordering}
use Rattle.std.specs.declared.cmp.Ordering.TheVariants.{Less, Equal, Greater}
use Rattle.nm_types.specs.declared.value.Value.{Value}
use Rattle.nm_types.specs.declared.value.Value.TheVariants.{Int, Decimal, Text, Name, Bits, Empty, Present, Bool as Flag}
use Rattle.nm_types.specs.Value.{value_rank, value_number, value_digits, value_text, value_cmp, is_same_value}

-- the order of values is total
pub values_total : IsTotalOrder value_cmp
unfolding value_cmp
values_total = then_total (on_total value_rank nat_cmp_total)
    (then_total (on_total value_number int_cmp_total)
    (then_total (on_total value_digits nat_cmp_total) (on_total value_text nat_list_cmp_total)))

-- two orders, one after the other, give Equal only where both do
pub then_parts : (a b : Ordering) → ordering_then a b ≡ Equal → (a ≡ Equal) × (b ≡ Equal)
then_parts Less b e = cc
then_parts Equal b e = (refl, e)
then_parts Greater b e = cc

-- values with the same kind, number, digits and text are one
one_value : (x y : Value) → value_rank x ≡ value_rank y → value_number x ≡ value_number y → value_digits x ≡ value_digits y
    → value_text x ≡ value_text y → x ≡ y
one_value (Int z) (Int w) k n d t = cc
one_value (Decimal z d) (Decimal w f) k n e t = cc
one_value (Flag true) (Flag true) k n d t = refl
one_value (Flag false) (Flag false) k n d t = refl
one_value (Flag true) (Flag false) k n d t = cc
one_value (Flag false) (Flag true) k n d t = cc
one_value (Text s) (Text u) k n d t = cc
one_value (Name s) (Name u) k n d t = cc
one_value (Bits s) (Bits u) k n d t = cc
one_value Empty Empty k n d t = refl
one_value Present Present k n d t = refl
one_value _ _ k n d t = cc

-- values that the order doesn't tell apart are one value
pub value_cmp-IsAntisymmetric : CmpEqualImpliesEq value_cmp
unfolding value_cmp
value_cmp-IsAntisymmetric x y e =
    let p = then_parts _ _ e in
    let q = then_parts _ _ p.1 in
    let r = then_parts _ _ q.1 in
    one_value x y (exact_unsigned _ _ p.0) (exact_signed _ _ q.0) (exact_unsigned _ _ r.0) (exact_bytes _ _ r.1)

-- a value ties with itself
pub value_cmp-same : (x : Value) → value_cmp x x ≡ Equal
value_cmp-same = tied_itself values_total

-- values that their order doesn't tell apart are equivalent
pub values_equiv : IsEquivalence is_same_value
values_equiv = eq_by_cmp_equiv values_total

-- values are partly ordered, and any two can be compared
pub values_po : IsPartialOrder is_same_value (λ x y. Some (value_cmp x y))
values_po = po values_total (λ x y. refl)

-- the test of an order that tells all values apart is equality
pub decides_from_exact : {K : Type 0} {R : K → K → Ordering} → IsTotalOrder R → CmpEqualImpliesEq R → (x y : K) (b : Bool)
    → b ≡ eq_by_cmp R x y → IsTrue b ↔ (x ≡ y)
decides_from_exact {K} {R} total exact x y b e =
    (λ t. tells_apart exact x y (sym e ∙ t), λ p. e ∙ subst (λ (z : K). eq_by_cmp R x z ≡ true) p ((eq_by_cmp_equiv total).refl x))

-- the test of `==` tells whether two values are one
pub same_value_decides : (x y : Value) (b : Bool) → b ≡ is_same_value x y → IsTrue b ↔ (x ≡ y)
same_value_decides = decides_from_exact values_total value_cmp-IsAntisymmetric
