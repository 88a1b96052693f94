use Rattle.std.proofs.Common.{◌≡◌, take, map}
use Rattle.nm_schema_derive.specs.Order.{bit_name}
use Rattle.nm_schema_derive.proofs.ordered.bit_names.Given as goal

-- the names so far
abbrev pub invariant-loop-bit : goal.invariant-loop-bit
invariant-loop-bit l = l.names.items ≡ map bit_name (take l.bit-index l.bits)
