-- What is read as the value of a leaf is a value of its type.
use Rattle.std.proofs.Common.{◌≡◌, ℕ, ℤ, List, [], Bool, true, false, if◌then◌else◌, Option, Some, None, Result, Ok, Err, refl, sym, ap, ◌∙◌, subst, arith}
use Rattle.std.proofs.lemmas.Bool.{and_parts}
use Rattle.std.proofs.lemmas.Int.{ints}
use Rattle.std.specs.Prelude.{codes, FitsSigned}
use Rattle.std.specs.Int.{w64, w128}
use Rattle.std.specs.Fmt.{signed_decimal}
use Rattle.serde_json.specs.Data.{Data, null, boolean as flag, number, string as text, array, object, no_items, item}
use Rattle.nm_types.specs.LeafType.{Kind, integer, decimal, boolean, string, enumeration, bits, empty, TypeOfLeaf}
use Rattle.nm_types.specs.Limits.{meets_limits, is_within, is_within_kind, i64_part}
use Rattle.nm_types.specs.Canonical.{IsHeld}
use Rattle.nm_types.specs.Spells.{SpellsValue}
use Rattle.nm_types.specs.Reading.{spelled, judged}
use Rattle.nm_types.specs.declared.value.Value.{Value}
use Rattle.nm_types.specs.declared.value.Value.TheVariants.{Int, Decimal, Text, Name, Bits, Empty, Bool as Flag}
use Rattle.nm_types.specs.declared.fault.ValueFault.TheVariants.{OutOfRange}
use Rattle.nm_types.proofs.Readings.{spelled-sound, limits-sound}
use Rattle.nm_types.proofs.Canonicals.{integer-canonical}
use Rattle.nm_types.proofs.Integers.{fits_between}
use Rattle.nm_path.specs.Sound.{HasHeldBounds}
use Rattle.nm_json.specs.declared.fault.JsonKind.{JsonKind}
use Rattle.nm_json.specs.declared.fault.JsonKind.TheVariants.{BadValue}
use Rattle.nm_json.specs.Values.{read_or_bad, text_value, number_value, integer_of, integer_value, flag_value, null_value, empty_value, is_narrow, value_of_kind, leaf_value}
use Rattle.nm_json.specs.Laws.{IsOfType}

abbrev typed : Option (List (ℤ × ℤ)) → Kind → TypeOfLeaf
typed limits k = record { kind = k; limits = limits }

-- a text was read as a value
record WasRead (t : TypeOfLeaf) (s : List ℕ) (v : Value) : Type 0 where
  spelled : SpellsValue t.kind s v
  meets : meets_limits t v ≡ true

judged_by : (t : TypeOfLeaf) (s : List ℕ) (w v : Value) (b : Bool) → meets_limits t w ≡ b → SpellsValue t.kind s w → ◌≡◌ {A = Result Value JsonKind} (read_or_bad (if b then Ok w else Err OutOfRange)) (Ok v) → WasRead t s v
judged_by t s w v true is h e =
    let same : w ≡ v = cc in
    record { spelled = subst (SpellsValue t.kind s) same h; meets = ap (meets_limits t) (sym same) ∙ is }
judged_by t s w v false is h e = absurd cc

was_read : (t : TypeOfLeaf) (s : List ℕ) (v : Value) (o : Option Value) → spelled t.kind s ≡ o → read_or_bad (judged t o) ≡ Ok v → WasRead t s v
was_read t s v None is e = absurd cc
was_read t s v (Some w) is e = judged_by t s w v (meets_limits t w) refl (spelled-sound t.kind s w is) e

fits_64 : (z : ℤ) → is_within z i64_part ≡ true → FitsSigned w64 z
fits_64 z e = grind (arith, ints)

held_by : (k : Kind) (s : List ℕ) (v : Value) → HasHeldBounds k → SpellsValue k s v → is_within_kind k v ≡ true → IsHeld v
held_by (integer low high) s (Int z) h g w = fits_between low high z h.0 h.1 w
held_by (decimal digits) s (Decimal z d) h g w = fits_64 z w
held_by boolean s (Flag b) h g w = tt
held_by string s (Text x) h g w = tt
held_by (enumeration names) s (Name x) h g w = tt
held_by (bits all) s (Bits x) h g w = tt
held_by empty s Empty h g w = tt
held_by _ s _ h g w = absurd g

from_text : (t : TypeOfLeaf) (v : Value) (s : List ℕ) → HasHeldBounds t.kind → WasRead t s v → IsOfType t v
from_text t v s h r = record {
  text = s;
  spelled = r.spelled;
  within = limits-sound t v r.meets;
  held = held_by t.kind s v h r.spelled (and_parts (is_within_kind t.kind v) _ r.meets).0;
}

of_text : (t : TypeOfLeaf) (v : Value) (d : Data) → HasHeldBounds t.kind → text_value t d ≡ Ok v → IsOfType t v
of_text t v (text s) h e = from_text t v s h (was_read t s v (spelled t.kind s) refl e)
of_text t v null h e = absurd cc
of_text t v (flag b) h e = absurd cc
of_text t v (number n) h e = absurd cc
of_text t v (array ds) h e = absurd cc
of_text t v (object ms) h e = absurd cc

number_by : (limits : Option (List (ℤ × ℤ))) (low high z : ℤ) (v : Value) (b : Bool) → HasHeldBounds (integer low high) → meets_limits (typed limits (integer low high)) (Int z) ≡ b
    → ◌≡◌ {A = Result Value JsonKind} (if b then Ok (Int z) else Err BadValue) (Ok v) → IsOfType (typed limits (integer low high)) v
number_by limits low high z v false h is e = absurd cc
number_by limits low high z v true h is e =
    let t = typed limits (integer low high) in
    let same : Int z ≡ v = cc in
    let fits : FitsSigned w128 z = fits_between low high z h.0 h.1 (and_parts (is_within z (low, high)) _ is).0 in
    subst (IsOfType t) same (record { text = signed_decimal z; spelled = integer-canonical z fits; within = limits-sound t (Int z) is; held = fits })

integer_by : (limits : Option (List (ℤ × ℤ))) (low high : ℤ) (v : Value) (o : Option ℤ) → HasHeldBounds (integer low high) → integer_value (typed limits (integer low high)) o ≡ Ok v → IsOfType (typed limits (integer low high)) v
integer_by limits low high v None h e = absurd cc
integer_by limits low high v (Some z) h e = number_by limits low high z v (meets_limits (typed limits (integer low high)) (Int z)) h refl e

of_number : (limits : Option (List (ℤ × ℤ))) (low high : ℤ) (v : Value) (d : Data) → HasHeldBounds (integer low high) → number_value (typed limits (integer low high)) d ≡ Ok v → IsOfType (typed limits (integer low high)) v
of_number limits low high v (number n) h e = integer_by limits low high v (integer_of n) h e
of_number limits low high v null h e = absurd cc
of_number limits low high v (flag b) h e = absurd cc
of_number limits low high v (text s) h e = absurd cc
of_number limits low high v (array ds) h e = absurd cc
of_number limits low high v (object ms) h e = absurd cc

of_integer : (limits : Option (List (ℤ × ℤ))) (low high : ℤ) (v : Value) (d : Data) (narrow : Bool) → HasHeldBounds (integer low high)
    → (if narrow then number_value (typed limits (integer low high)) d else text_value (typed limits (integer low high)) d) ≡ Ok v → IsOfType (typed limits (integer low high)) v
of_integer limits low high v d true h e = of_number limits low high v d h e
of_integer limits low high v d false h e = of_text (typed limits (integer low high)) v d h e

flag_is : (limits : Option (List (ℤ × ℤ))) (b : Bool) → IsOfType (typed limits boolean) (Flag b)
flag_is limits true = record { text = codes "true"; spelled = refl; within = (tt, tt); held = tt }
flag_is limits false = record { text = codes "false"; spelled = refl; within = (tt, tt); held = tt }

of_flag : (limits : Option (List (ℤ × ℤ))) (v : Value) (d : Data) → flag_value d ≡ Ok v → IsOfType (typed limits boolean) v
of_flag limits v (flag b) e =
    let same : Flag b ≡ v = cc in
    subst (IsOfType (typed limits boolean)) same (flag_is limits b)
of_flag limits v null e = absurd cc
of_flag limits v (number n) e = absurd cc
of_flag limits v (text s) e = absurd cc
of_flag limits v (array ds) e = absurd cc
of_flag limits v (object ms) e = absurd cc

of_null : (limits : Option (List (ℤ × ℤ))) (v : Value) (d : Data) → null_value d ≡ Ok v → IsOfType (typed limits empty) v
of_null limits v null e =
    let same : Empty ≡ v = cc in
    subst (IsOfType (typed limits empty)) same (record { text = []; spelled = refl; within = (tt, tt); held = tt })
of_null limits v (flag b) e = absurd cc
of_null limits v (number n) e = absurd cc
of_null limits v (text s) e = absurd cc
of_null limits v (array ds) e = absurd cc
of_null limits v (object ms) e = absurd cc

of_empty : (limits : Option (List (ℤ × ℤ))) (v : Value) (d : Data) → empty_value d ≡ Ok v → IsOfType (typed limits empty) v
of_empty limits v (array (item d no_items)) e = of_null limits v d e
of_empty limits v (array no_items) e = absurd cc
of_empty limits v (array (item d (item f ds))) e = absurd cc
of_empty limits v null e = absurd cc
of_empty limits v (flag b) e = absurd cc
of_empty limits v (number n) e = absurd cc
of_empty limits v (text s) e = absurd cc
of_empty limits v (object ms) e = absurd cc

of_kind : (limits : Option (List (ℤ × ℤ))) (k : Kind) (v : Value) (d : Data) → HasHeldBounds k → value_of_kind (typed limits k) k d ≡ Ok v → IsOfType (typed limits k) v
unfolding value_of_kind
of_kind limits (integer low high) v d h e = of_integer limits low high v d (is_narrow high) h e
of_kind limits (decimal digits) v d h e = of_text (typed limits (decimal digits)) v d h e
of_kind limits boolean v d h e = of_flag limits v d e
of_kind limits string v d h e = of_text (typed limits string) v d h e
of_kind limits (enumeration names) v d h e = of_text (typed limits (enumeration names)) v d h e
of_kind limits (bits all) v d h e = of_text (typed limits (bits all)) v d h e
of_kind limits empty v d h e = of_empty limits v d e

-- what is read as a value of a type is one
pub of_type : (t : TypeOfLeaf) (v : Value) (d : Data) → HasHeldBounds t.kind → leaf_value t d ≡ Ok v → IsOfType t v
of_type t v d h e = of_kind t.limits t.kind v d h e
