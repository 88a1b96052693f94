-- A type in words of YANG (RFC 7950 section 9), and the JSON values that its values are (RFC 7951 section 6).
use Rattle.std.specs.Prelude.{ℕ, ℤ, pos, List, [], ◌∷◌, ◌++◌, codes, decimal, ◌==◌, Option, Some, None, if◌then◌else◌}
use Rattle.std.specs.Ordering.{int_eq}
use Rattle.nm_lines.specs.Printed.{printed}
use Rattle.nm_types.specs.LeafType.{Kind, integer, boolean, string, enumeration, bits, empty, TypeOfLeaf}
use Rattle.nm_types.specs.LeafType as leaf
use Rattle.nm_json.specs.Values.{is_narrow}
use Rattle.nm_explain.specs.declared.numbers.Numbers.{Numbers}
use Rattle.nm_explain.specs.declared.numbers.Numbers.TheVariants.{Whole, Scaled, Length}
use Rattle.nm_explain.specs.Numbers.{parts_text}

-- the integer types by their highest numbers (RFC 7950 section 9.2)
unfoldable pub integer_name : ℤ → List ℕ
integer_name high =
    if int_eq high (pos 127) then codes "int8" else (
    if int_eq high (pos 32767) then codes "int16" else (
    if int_eq high (pos 2147483647) then codes "int32" else (
    if int_eq high (pos 9223372036854775807) then codes "int64" else (
    if int_eq high (pos 255) then codes "uint8" else (
    if int_eq high (pos 65535) then codes "uint16" else (
    if int_eq high (pos 4294967295) then codes "uint32" else (
    if int_eq high (pos 18446744073709551615) then codes "uint64" else codes "integer")))))))

-- the words for a number of fraction digits
abbrev pub digits_word : ℕ → List ℕ
digits_word digits = if digits == 1 then codes " fraction digit" else codes " fraction digits"

-- a number between two words
abbrev pub counted_text : List ℕ → ℕ → List ℕ → List ℕ
counted_text lead count word = lead ++ decimal count ++ word

-- a decimal64 by its fraction-digits (RFC 7950 section 9.3.4)
abbrev pub decimal_name : ℕ → List ℕ
decimal_name digits = counted_text (codes "decimal64 with ") digits (digits_word digits)

-- the range or the length, where there is one
abbrev pub limits_text : Numbers → List ℕ → Option (List (ℤ × ℤ)) → List ℕ
limits_text numbers lead None = []
limits_text numbers lead (Some parts) = lead ++ parts_text numbers parts

-- the range of an integer type: its own, where it is restricted to none (RFC 7950 section 9.2.4)
abbrev pub range_text : ℤ → ℤ → Option (List (ℤ × ℤ)) → List ℕ
range_text low high None = codes ", " ++ parts_text Whole ((low, high) ∷ [])
range_text low high (Some parts) = codes ", " ++ parts_text Whole parts

-- the names behind the first
abbrev pub others_text : List (List ℕ) → List ℕ
others_text [] = []
others_text (name ∷ names) = codes ", " ++ printed name ++ others_text names

-- names, with commas between them
abbrev pub names_text : List (List ℕ) → List ℕ
names_text [] = []
names_text (name ∷ names) = printed name ++ others_text names

-- names behind a text
abbrev pub listed_text : List ℕ → List (List ℕ) → List ℕ
listed_text lead names = lead ++ names_text names

-- a type of a kind that is restricted so
abbrev pub kind_text : Kind → Option (List (ℤ × ℤ)) → List ℕ
kind_text (integer low high) limits = integer_name high ++ range_text low high limits
kind_text (leaf.decimal digits) limits = decimal_name digits ++ limits_text (Scaled digits) (codes ", ") limits
kind_text boolean limits = codes "boolean"
kind_text string limits = codes "string" ++ limits_text Length (codes ", of length ") limits
kind_text (enumeration names) limits = listed_text (codes "enumeration: ") names
kind_text (bits names) limits = listed_text (codes "bits: ") names
kind_text empty limits = codes "empty"

-- a type in words
abbrev pub type_text : TypeOfLeaf → List ℕ
type_text t = kind_text t.kind t.limits

-- the JSON value that a value of a kind is (RFC 7951 sections 6.1 to 6.9)
abbrev pub form_text : Kind → List ℕ
form_text (integer low high) = if is_narrow high then codes "a JSON number" else codes "a JSON string"
form_text (leaf.decimal digits) = codes "a JSON string"
form_text boolean = codes "true or false"
form_text string = codes "a JSON string"
form_text (enumeration names) = codes "a JSON string"
form_text (bits names) = codes "a JSON string"
form_text empty = codes "[null]"
