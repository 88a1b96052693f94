-- What a JSON value is as the value of a leaf (RFC 7951 section 6).
use Rattle.std.specs.Prelude.{◌≡◌, ◌==◌, ◌^◌, ℤ, pos, int_lt, is_nan, to_bits, Float, Bool, false, Option, Some, None, Result, Ok, Err, if◌then◌else◌}
use Rattle.std.specs.Option.{option_or}
use Rattle.std.specs.Float.{binary64}
use Rattle.serde_json.specs.Data.{Num, Data, null, boolean as flag, number, string as text, array, no_items, item}
use Rattle.serde_json.specs.Find.{as_integer, to_float}
use Rattle.nm_types.specs.LeafType.{Kind, integer, decimal, boolean, string, enumeration, bits, empty, TypeOfLeaf}
use Rattle.nm_types.specs.Limits.{meets_limits}
use Rattle.nm_types.specs.Reading.{reading}
use Rattle.nm_types.specs.declared.value.Value.{Value}
use Rattle.nm_types.specs.declared.value.Value.TheVariants.{Int, Empty, Bool as Flag}
use Rattle.nm_types.specs.declared.fault.ValueFault.{ValueFault}
use Rattle.nm_json.specs.declared.fault.JsonKind.{JsonKind}
use Rattle.nm_json.specs.declared.fault.JsonKind.TheVariants.{BadForm, BadValue}
use Rattle.nm_json.specs.declared.fault.Refusal.{Refusal}
use Rattle.nm_json.specs.declared.fault.Refusal.TheVariants.{Bad, NoMemory}

-- the value of a text, and any fault of it as a bad value
abbrev pub read_or_bad : Result Value ValueFault → Result Value JsonKind
read_or_bad (Ok v) = Ok v
read_or_bad (Err _) = Err BadValue

-- a JSON string is read as the text of a value (RFC 7951 sections 6.1 to 6.5)
abbrev pub text_value : TypeOfLeaf → Data → Result Value JsonKind
text_value t (text s) = read_or_bad (reading t s)
text_value t _ = Err BadForm

-- a float is -0: of its bits the sign alone is set
abbrev pub is_minus_zero : Float → Bool
is_minus_zero x = if is_nan x then false else to_bits binary64 x == 2 ^ 63

-- zero, where a number is -0, which the reader of JSON keeps as a float
abbrev pub minus_zero : Num → Option ℤ
minus_zero n = if is_minus_zero (to_float n) then Some (pos 0) else None

-- the integer that a JSON number is; `-0` is zero (RFC 7950 section 9.2.1)
abbrev pub integer_of : Num → Option ℤ
integer_of n = option_or (as_integer n) (minus_zero n)

-- an integer within the limits of its type, and not a float
abbrev pub integer_value : TypeOfLeaf → Option ℤ → Result Value JsonKind
integer_value t None = Err BadValue
integer_value t (Some z) = if meets_limits t (Int z) then Ok (Int z) else Err BadValue

-- a JSON number is an integer of at most 32 bits (RFC 7951 section 6.1)
abbrev pub number_value : TypeOfLeaf → Data → Result Value JsonKind
number_value t (number n) = integer_value t (integer_of n)
number_value t _ = Err BadForm

-- a JSON boolean (RFC 7951 section 6.3)
abbrev pub flag_value : Data → Result Value JsonKind
flag_value (flag b) = Ok (Flag b)
flag_value _ = Err BadForm

-- `[null]` is the one value of type empty (RFC 7951 section 6.9)
abbrev pub null_value : Data → Result Value JsonKind
null_value null = Ok Empty
null_value _ = Err BadValue

-- an array of one null
abbrev pub empty_value : Data → Result Value JsonKind
empty_value (array (item d no_items)) = null_value d
empty_value (array _) = Err BadValue
empty_value _ = Err BadForm

-- the numbers of a type up to this one have at most 32 bits (RFC 7951 section 6.1)
unfoldable pub is_narrow : ℤ → Bool
is_narrow high = int_lt high (pos 4294967296)

-- the value of a kind of type: integers of more than 32 bits are JSON strings (RFC 7951 section 6.1)
unfoldable pub value_of_kind : TypeOfLeaf → Kind → Data → Result Value JsonKind
value_of_kind t (integer low high) d = if is_narrow high then number_value t d else text_value t d
value_of_kind t (decimal digits) d = text_value t d
value_of_kind t boolean d = flag_value d
value_of_kind t string d = text_value t d
value_of_kind t (enumeration names) d = text_value t d
value_of_kind t (bits all) d = text_value t d
value_of_kind t empty d = empty_value d

-- the value that a JSON value is for a leaf of a type, or its fault
abbrev pub leaf_value : TypeOfLeaf → Data → Result Value JsonKind
leaf_value t d = value_of_kind t t.kind d

-- an answer is what the value is, unless memory ran out
abbrev pub IsValue : Result Value Refusal → Result Value JsonKind → Type 0
IsValue (Ok v) given = given ≡ Ok v
IsValue (Err (Bad kind)) given = given ≡ Err kind
IsValue (Err NoMemory) given = Unit {0}
