-- The texts of arguments (RFC 7950 sections 6.2 and 14).
use Rattle.std.specs.Prelude.{ℕ, ◌-◌, ◌^◌, List, [], ◌∷◌, codes, Bool, true, false, ◌==◌, ◌||◌, ◌&&◌, nat_le, Option, Some, None, if◌then◌else◌}
use Rattle.std.specs.Str.{bytes_eq, trim}
use Rattle.std.specs.List.{list_all, before_first, after_first}
use Rattle.nm_base.specs.Decimal.{number_of}
use Rattle.nm_yang.specs.Byte.{is_start, is_name}
use Rattle.nm_schema_statements.specs.Word.{has_colon}

-- bytes that an identifier goes on with (RFC 7950 section 6.2)
abbrev pub are_names : List ℕ → Bool
are_names bytes = list_all (λ b. is_name b) bytes

-- an identifier: a letter or `_`, then letters, digits, `_`, `-` and `.` (RFC 7950 section 6.2)
abbrev pub is_identifier : List ℕ → Bool
is_identifier [] = false
is_identifier (b ∷ bytes) = is_start b && are_names bytes

-- what stands before the first colon (RFC 7950 section 6.5)
unfoldable pub prefix_of : List ℕ → Option (List ℕ)
prefix_of text = if has_colon text then Some (before_first (λ b. b == 58) text) else None

-- what stands after the first colon, and all where there is none (RFC 7950 section 6.5)
unfoldable pub name_of : List ℕ → List ℕ
name_of text = if has_colon text then after_first (λ b. b == 58) text else text

-- a prefix is an identifier, or there is none (RFC 7950 section 14: identifier-ref-arg)
abbrev pub is_prefix : Option (List ℕ) → Bool
is_prefix None = true
is_prefix (Some prefix) = is_identifier prefix

-- an identifier, or a prefix, a colon and an identifier (RFC 7950 section 14: identifier-ref)
abbrev pub is_reference : List ℕ → Bool
is_reference text = is_prefix (prefix_of text) && is_identifier (name_of text)

-- `true` and `false` (RFC 7950 sections 7.6.5 and 7.21.1)
unfoldable pub is_truth : List ℕ → Bool
is_truth text = bytes_eq text (codes "true") || bytes_eq text (codes "false")

-- the versions of YANG (RFC 7950 section 7.1.2, RFC 6020 section 7.1.2)
unfoldable pub is_version : List ℕ → Bool
is_version text = bytes_eq text (codes "1") || bytes_eq text (codes "1.1")

-- who orders entries (RFC 7950 section 7.7.7)
unfoldable pub is_order : List ℕ → Bool
is_order text = bytes_eq text (codes "system") || bytes_eq text (codes "user")

-- a number from low to high
abbrev pub is_between : ℕ → ℕ → Option ℕ → Bool
is_between low high None = false
is_between low high (Some n) = nat_le low n && nat_le n high

-- a decimal below 2 ^ 32 without leading zeros (RFC 7950 section 14: non-negative-integer-value; the bound is this project's own)
abbrev pub is_count : List ℕ → Bool
is_count text = is_between 0 (2 ^ 32 - 1) (number_of text)

-- `unbounded`, or such a decimal from 1 (RFC 7950 section 7.7.6)
unfoldable pub is_limit : List ℕ → Bool
is_limit text = bytes_eq text (codes "unbounded") || is_between 1 (2 ^ 32 - 1) (number_of text)

-- from 1 to 18 (RFC 7950 section 9.3.4)
abbrev pub is_digit_count : List ℕ → Bool
is_digit_count text = is_between 1 18 (number_of text)

-- at least one byte
abbrev pub is_some_text : List ℕ → Bool
is_some_text [] = false
is_some_text (b ∷ bytes) = true

-- the name of an enum: at least one character, and no white space of Unicode first or last (RFC 7950 section 9.6.4)
abbrev pub is_enum_name : List ℕ → Bool
is_enum_name text = is_some_text text && bytes_eq (trim text) text

-- the built-in types of numbers (RFC 7950 section 4.2.4)
unfoldable pub is_number_type : List ℕ → Bool
is_number_type name =
    if bytes_eq name (codes "int8") then true else (
    if bytes_eq name (codes "int16") then true else (
    if bytes_eq name (codes "int32") then true else (
    if bytes_eq name (codes "int64") then true else (
    if bytes_eq name (codes "uint8") then true else (
    if bytes_eq name (codes "uint16") then true else (
    if bytes_eq name (codes "uint32") then true else (
    if bytes_eq name (codes "uint64") then true else (
    if bytes_eq name (codes "decimal64") then true else false))))))))

-- the other built-in types that this project has (RFC 7950 section 4.2.4)
unfoldable pub is_plain_type : List ℕ → Bool
is_plain_type name =
    if bytes_eq name (codes "boolean") then true else (
    if bytes_eq name (codes "string") then true else (
    if bytes_eq name (codes "enumeration") then true else (
    if bytes_eq name (codes "bits") then true else (
    if bytes_eq name (codes "empty") then true else (
    if bytes_eq name (codes "leafref") then true else false)))))

-- the built-in types that this project leaves out (RFC 7950 section 4.2.4)
unfoldable pub is_left_out_type : List ℕ → Bool
is_left_out_type name =
    if bytes_eq name (codes "union") then true else (
    if bytes_eq name (codes "identityref") then true else (
    if bytes_eq name (codes "instance-identifier") then true else (
    if bytes_eq name (codes "binary") then true else false)))

-- the name of a built-in type (RFC 7950 section 4.2.4)
abbrev pub is_builtin : List ℕ → Bool
is_builtin name = is_number_type name || is_plain_type name || is_left_out_type name
