-- The type of a leaf that a derivation ends in.
use Rattle.std.specs.Prelude.{ℕ, ℤ, List, map, Option, Some, None}
use Rattle.nm_types.specs.LeafType.{Kind, TypeOfLeaf, integer, decimal, boolean, string, enumeration, bits, empty}
use Rattle.nm_schema_derive.specs.declared.members.Member.{Member}
use Rattle.nm_schema_derive.specs.Order.{names_in_order}
use Rattle.nm_schema_derive.specs.Built as built
use Rattle.nm_schema_derive.specs.Built.{Built, Derivation}

-- the name of a member of an enumeration or of a bits type
abbrev pub member_name : Member → List ℕ
member_name member = member.name

-- the kind of a leaf's type, where nothing lacks and a leafref's target is none of its matter (RFC 7950 section 9), with
-- the names of bits in order of position (RFC 7950 section 9.7.4.2)
abbrev pub kind_made : Built → Option Kind
kind_made (built.integer low high) = Some (integer low high)
kind_made (built.decimal digits) = Some (decimal digits)
kind_made built.boolean = Some boolean
kind_made built.string = Some string
kind_made (built.names members) = Some (enumeration (map member_name members))
kind_made (built.bits members) = Some (bits (names_in_order members))
kind_made built.empty = Some empty
kind_made _ = None

-- a kind with a range or length
abbrev pub with_limits : Option (List (ℤ × ℤ)) → Option Kind → Option TypeOfLeaf
with_limits limits None = None
with_limits limits (Some kind) = Some (record { kind = kind; limits = limits })

-- the type of a leaf with a derived type, if that lacks nothing and is no leafref
abbrev pub leaf_type_of : Derivation → Option TypeOfLeaf
leaf_type_of d = with_limits d.limits (kind_made d.built)
