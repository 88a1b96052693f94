use Rattle.std.proofs.Common.{◌≡◌, drop}
use Rattle.nm_base.specs.Decimal.{digits_after}
use Rattle.nm_schema_derive.proofs.form.more_digits.Given as goal

-- what is left goes on from the value so far
abbrev pub invariant-loop-byte : goal.invariant-loop-byte
invariant-loop-byte l = digits_after l.value (drop l.byte-index l.digits) ≡ digits_after l.number l.digits
