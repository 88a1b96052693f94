use Rattle.std.proofs.Common.{◌+◌, ◌*◌, ◌^◌, ℕ, min, arith, ap, ◌∙◌}
use Rattle.nm_types.proofs.Decimals.{number-step, digit_at_index}
use Rattle.nm_types.proofs.decimal.number_after.Goals as goal

pub overflow_sub-digit : goal.overflow_sub-digit
overflow_sub-digit c = (digit_at_index c.args.digits.now c.loop-digit.digit-index c.requires.digits (omega arith)).0

pub loop-digit-preserved : goal.loop-digit-preserved
loop-digit-preserved c = record {
  low = omega (arith, c.min-number.ensures);
  same = number-step c.loop-digit.number c.args.number c.min-number.result c.loop-digit.digit-index c.args.digits.now c.requires.digits (omega arith) c.loop-digit.invariant.same
      (c.min-number.ensures ∙ ap (λ (n : ℕ). min (c.loop-digit.number * 10 + n) (2 ^ 64)) c.from.ensures);
}
