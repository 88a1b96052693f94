-- The built-in types and their names (RFC 7950 section 4.2.4).
use Rattle.std.specs.Prelude.{ℕ, pos, negsuc, List, codes, if◌then◌else◌, Option, Some, None}
use Rattle.std.specs.Str.{bytes_eq}
use Rattle.nm_schema_derive.specs.declared.names.BuiltIn.{BuiltIn}
use Rattle.nm_schema_derive.specs.declared.names.BuiltIn.TheVariants.{Integer, Decimal64, Boolean, String, Enumeration, Bits, Empty, Leafref}

-- the integer type of a name, with the numbers that its bits hold (RFC 7950 section 9.2)
unfoldable pub integer_named : List ℕ → Option BuiltIn
integer_named name =
    if bytes_eq name (codes "int8") then Some (Integer (negsuc 127) (pos 127)) else (
    if bytes_eq name (codes "int16") then Some (Integer (negsuc 32767) (pos 32767)) else (
    if bytes_eq name (codes "int32") then Some (Integer (negsuc 2147483647) (pos 2147483647)) else (
    if bytes_eq name (codes "int64") then Some (Integer (negsuc 9223372036854775807) (pos 9223372036854775807)) else (
    if bytes_eq name (codes "uint8") then Some (Integer (pos 0) (pos 255)) else (
    if bytes_eq name (codes "uint16") then Some (Integer (pos 0) (pos 65535)) else (
    if bytes_eq name (codes "uint32") then Some (Integer (pos 0) (pos 4294967295)) else (
    if bytes_eq name (codes "uint64") then Some (Integer (pos 0) (pos 18446744073709551615)) else None)))))))

-- the other types (RFC 7950 section 4.2.4)
unfoldable pub other_named : List ℕ → Option BuiltIn
other_named name =
    if bytes_eq name (codes "decimal64") then Some Decimal64 else (
    if bytes_eq name (codes "boolean") then Some Boolean else (
    if bytes_eq name (codes "string") then Some String else (
    if bytes_eq name (codes "enumeration") then Some Enumeration else (
    if bytes_eq name (codes "bits") then Some Bits else (
    if bytes_eq name (codes "empty") then Some Empty else (
    if bytes_eq name (codes "leafref") then Some Leafref else None))))))

-- the first that is there
abbrev pub first_of : Option BuiltIn → Option BuiltIn → Option BuiltIn
first_of (Some found) other = Some found
first_of None other = other

-- the built-in type of a name (RFC 7950 section 4.2.4)
abbrev pub built_in_of : List ℕ → Option BuiltIn
built_in_of name = first_of (integer_named name) (other_named name)
