-- Ranges and lengths.
use Rattle.std.specs.Prelude.{ℤ, pos, negsuc, Bool, true, ◌&&◌, List, Any, ◌≤ℤ◌, int_le, length, ⊤, Option, Some, None, IfSome}
use Rattle.std.specs.List.{list_any}
use Rattle.std.specs.Option.{option_map_or}
use Rattle.std.specs.Str.{chars}
use Rattle.nm_types.specs.declared.value.Value.{Value}
use Rattle.nm_types.specs.declared.value.Value.TheVariants.{Int, Decimal, Text, Name, Bits, Empty, Present, Bool as Flag}
use Rattle.nm_types.specs.LeafType.{Kind, integer, decimal, TypeOfLeaf}

-- a number is within a part of a range, its ends included (RFC 7950 section 9.2.4)
abbrev pub IsWithin : ℤ → ℤ × ℤ → Type 0
IsWithin z part = (part.0 ≤ℤ z) × (z ≤ℤ part.1)

-- a number meets a range by being within one of its parts; where there is no range each number does (RFC 7950 section 9.2.4)
abbrev pub MeetsRange : Option (List (ℤ × ℤ)) → ℤ → Type 0
MeetsRange range z = IfSome range (λ parts. Any (IsWithin z) parts)

-- the numbers that 64 bits hold with a sign
abbrev pub i64_part : ℤ × ℤ
i64_part = (negsuc 9223372036854775807, pos 9223372036854775807)

-- an integer is within the bounds of its type, and a decimal's scaled value within 64 bits (RFC 7950 sections 9.2 and 9.3.4)
abbrev pub IsWithinKind : Kind → Value → Type 0
IsWithinKind (integer low high) (Int z) = IsWithin z (low, high)
IsWithinKind (decimal digits) (Decimal z d) = IsWithin z i64_part
IsWithinKind _ _ = ⊤

-- the number that ranges and lengths speak of: an integer, a decimal's scaled value, or how many characters a string has
-- (RFC 7950 sections 9.2.4, 9.3.4 and 9.4.4)
abbrev pub measured : Value → Option ℤ
measured (Int z) = Some z
measured (Decimal z d) = Some z
measured (Text t) = Some (pos (length (chars t)))
measured (Flag b) = None
measured (Name t) = None
measured (Bits t) = None
measured Empty = None
measured Present = None

-- a value is within the bounds of its kind and meets the range or length of its type
abbrev pub MeetsLimits : TypeOfLeaf → Value → Type 0
MeetsLimits t v = IsWithinKind t.kind v × IfSome (measured v) (MeetsRange t.limits)

-- the same as tests
abbrev pub is_within : ℤ → ℤ × ℤ → Bool
is_within z part = int_le part.0 z && int_le z part.1

-- a number is within one of the parts, where there are any limits
abbrev pub meets_range : Option (List (ℤ × ℤ)) → ℤ → Bool
meets_range range z = option_map_or (λ parts. list_any (is_within z) parts) range true

-- a number is within what its type can hold; other values always are
abbrev pub is_within_kind : Kind → Value → Bool
is_within_kind (integer low high) (Int z) = is_within z (low, high)
is_within_kind (decimal digits) (Decimal z d) = is_within z i64_part
is_within_kind _ _ = true

-- a value is within what its type can hold, and within the limits of the type
abbrev pub meets_limits : TypeOfLeaf → Value → Bool
meets_limits t v = is_within_kind t.kind v && option_map_or (meets_range t.limits) (measured v) true
