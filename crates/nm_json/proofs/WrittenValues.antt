-- The JSON value that is written for a value is read as that value.
use Rattle.std.proofs.Common.{◌≡◌, ℕ, ℤ, pos, negsuc, List, Bool, true, false, ◌&&◌, if◌then◌else◌, Option, Some, Result, Ok, Err, refl, ap, ◌∙◌, arith}
use Rattle.std.proofs.lemmas.Int.{ints}
use Rattle.std.specs.Prelude.{int_lt, int_le, ◌≤ℤ◌}
use Rattle.serde_json.specs.Data.{string as text}
use Rattle.serde_json.specs.Find.{of_integer}
use Rattle.nm_types.specs.LeafType.{Kind, integer, decimal, boolean, string, enumeration, bits, empty, TypeOfLeaf}
use Rattle.nm_types.specs.Limits.{MeetsLimits}
use Rattle.nm_types.specs.Canonical.{canonical}
use Rattle.nm_types.specs.Spells.{SpellsValue}
use Rattle.nm_types.specs.Reading.{judged}
use Rattle.nm_types.specs.declared.value.Value.{Value}
use Rattle.nm_types.specs.declared.value.Value.TheVariants.{Int, Decimal, Text, Name, Bits, Empty, Bool as Flag}
use Rattle.nm_types.specs.declared.fault.ValueFault.TheVariants.{OutOfRange}
use Rattle.nm_types.proofs.Readings.{spelled-complete, limits-complete}
use Rattle.nm_types.proofs.Written.{canonical-spells}
use Rattle.nm_json.specs.declared.fault.JsonKind.{JsonKind}
use Rattle.nm_json.specs.declared.fault.JsonKind.TheVariants.{BadValue}
use Rattle.nm_json.specs.Values.{read_or_bad, text_value, number_value, integer_of, integer_value, is_narrow, value_of_kind, leaf_value}
use Rattle.nm_json.specs.Writing.{is_small, integer_data, narrow_kind, value_data}
use Rattle.nm_json.specs.Laws.{HasLow, IsYangType, IsOfType}

small : (z low high : ℤ) → is_narrow high ≡ true → negsuc 2147483647 ≤ℤ low → low ≤ℤ z → z ≤ℤ high → is_small z ≡ true
unfolding is_narrow is_small
small z low high n a b c =
    let left : int_le (negsuc 2147483647) z ≡ true = grind (arith, ints) in
    let right : int_lt z (pos 4294967296) ≡ true = grind (arith, ints) in
    rw (left, right) refl

integer_back : (z : ℤ) → integer_of (of_integer z) ≡ Some z
integer_back (pos n) = refl
integer_back (negsuc n) = refl

-- a value that is written as its canonical text
text_back : (t : TypeOfLeaf) (v : Value) → SpellsValue t.kind (canonical v) v → MeetsLimits t v → text_value t (text (canonical v)) ≡ Ok v
text_back t v s m =
    ap (λ o. read_or_bad (judged t o)) (spelled-complete t.kind (canonical v) v s) ∙ ap (λ b. read_or_bad (if b then Ok v else Err OutOfRange)) (limits-complete t v m)

abbrev accepted : ℤ → Bool → Result Value JsonKind
accepted z b = if b then Ok (Int z) else Err BadValue

-- an integer that is written as a number
number_back : (t : TypeOfLeaf) (z : ℤ) → MeetsLimits t (Int z) → number_value t (integer_data true z) ≡ Ok (Int z)
number_back t z m =
    ap (integer_value t) (integer_back z) ∙ ap (accepted z) (limits-complete t (Int z) m)

whole_back : (t : TypeOfLeaf) (z : ℤ) (narrow is : Bool) → (narrow ≡ true → is ≡ true) → SpellsValue t.kind (canonical (Int z)) (Int z) → MeetsLimits t (Int z)
    → (if narrow then number_value t (integer_data (narrow && is) z) else text_value t (integer_data (narrow && is) z)) ≡ Ok (Int z)
whole_back t z true is small s m = ap (λ b. number_value t (integer_data b z)) (small refl) ∙ number_back t z m
whole_back t z false is small s m = text_back t (Int z) s m

abbrev typed : Option (List (ℤ × ℤ)) → Kind → TypeOfLeaf
typed limits k = record { kind = k; limits = limits }

value_back : (limits : Option (List (ℤ × ℤ))) (k : Kind) (spelling : List ℕ) (v : Value) → HasLow k → SpellsValue k spelling v → SpellsValue k (canonical v) v → MeetsLimits (typed limits k) v
    → value_of_kind (typed limits k) k (value_data (narrow_kind k) v) ≡ Ok v
unfolding value_of_kind
value_back limits (integer low high) spelling (Int z) l g s m =
    whole_back (typed limits (integer low high)) z (is_narrow high) (is_small z) (λ n. small z low high n (l n) m.0.0 m.0.1) s m
value_back limits (decimal digits) spelling (Decimal z d) l g s m = text_back (typed limits (decimal digits)) (Decimal z d) s m
value_back limits boolean spelling (Flag b) l g s m = refl
value_back limits string spelling (Text t) l g s m = text_back (typed limits string) (Text t) s m
value_back limits (enumeration names) spelling (Name t) l g s m = text_back (typed limits (enumeration names)) (Name t) s m
value_back limits (bits all) spelling (Bits t) l g s m = text_back (typed limits (bits all)) (Bits t) s m
value_back limits empty spelling Empty l g s m = refl
value_back limits _ spelling _ l g s m = absurd g

pub value_law : (t : TypeOfLeaf) (v : Value) → IsYangType t → IsOfType t v → leaf_value t (value_data (narrow_kind t.kind) v) ≡ Ok v
value_law t v y o = value_back t.limits t.kind o.text v y.low o.spelled (canonical-spells t.kind o.text v o.held y.names o.spelled) o.within
