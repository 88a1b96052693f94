use Rattle.std.proofs.Common.{◌≡◌, ◌≤◌, ◌^◌, min, drop}
use Rattle.std.specs.Str.Parse.{digits_value_after}
use Rattle.nm_types.proofs.decimal.number_after.Given as goal

-- what is read so far, with the digits that are left, is the number of all of them
abbrev pub invariant-loop-digit : goal.invariant-loop-digit
invariant-loop-digit l = record {
  low : l.number ≤ 2 ^ 64;
  same : min (digits_value_after 10 l.number (drop l.digit-index l.digits)) (2 ^ 64) ≡ min (digits_value_after 10 l.fn.number l.digits) (2 ^ 64);
}
