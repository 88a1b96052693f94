-- The kind of a type, without where it lies in memory.
use Rattle.nm_types.specs.declared.leaf_type.TypeKind.{TypeKind}
use Rattle.nm_types.specs.declared.leaf_type.TypeKind.TheVariants.{Integer, Decimal, Boolean, Text, Names, Bits, Empty}
use Rattle.nm_types.specs.LeafType.{Kind, integer, decimal, boolean, string, enumeration, bits, empty}

-- the kind that a `TypeKind` stands for
abbrev pub kind_of : TypeKind → Kind
kind_of (Integer low high) = integer low high
kind_of (Decimal digits) = decimal digits
kind_of Boolean = boolean
kind_of Text = string
kind_of (Names names) = enumeration names
kind_of (Bits names) = bits names
kind_of Empty = empty
