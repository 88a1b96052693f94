use Rattle.std.proofs.Common.{◌≡◌, take, map}
use Rattle.nm_schema_derive.specs.Order.{bit_of}
use Rattle.nm_schema_derive.proofs.ordered.bits_of.Given as goal

-- the bits so far
abbrev pub invariant-loop-member : goal.invariant-loop-member
invariant-loop-member l = l.bits.items ≡ map bit_of (take l.member-index l.members)
