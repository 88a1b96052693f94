-- What a type is built as, without where it lies in memory.
use Rattle.std.specs.Prelude.{◌≡◌, map, ⊤}
use Rattle.nm_schema_derive.specs.declared.derived.TypeShape.{TypeShape}
use Rattle.nm_schema_derive.specs.declared.derived.TypeShape.TheVariants.{Integer, BareDecimal, Decimal, Boolean, Text, BareNames, Names, BareBits, Bits, Empty, Reference}
use Rattle.nm_schema_derive.specs.Kinds.{member_name}
use Rattle.nm_schema_derive.specs.Order.{names_in_order}
use Rattle.nm_schema_derive.specs.Built.{Built, integer, bare_decimal, decimal, boolean, string, bare_names, names, bare_bits, bits, empty, reference}

-- what a `TypeShape` stands for
abbrev pub built_of : TypeShape → Built
built_of (Integer low high) = integer low high
built_of BareDecimal = bare_decimal
built_of (Decimal digits) = decimal digits
built_of Boolean = boolean
built_of Text = string
built_of BareNames = bare_names
built_of (Names members listed) = names members.value
built_of BareBits = bare_bits
built_of (Bits members listed) = bits members.value
built_of Empty = empty
built_of Reference = reference

-- the names beside members are those that a leaf's type has of them (RFC 7950 sections 9.6 and 9.7.4.2)
abbrev pub HasNames : TypeShape → Type 0
HasNames (Names members listed) = listed ≡ map member_name members.value
HasNames (Bits members listed) = listed ≡ names_in_order members.value
HasNames _ = ⊤
