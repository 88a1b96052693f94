use Rattle.std.proofs.Common.{◌∙◌, sym, ap, refl, true, false, Ok}
use Rattle.std.specs.Str.Parse.{signed_digits_value}
use Rattle.nm_types.specs.Reading.{is_numeral}
use Rattle.nm_types.proofs.Integers.{IsNumeral-from_test, integer_bad, integer_in, integer_out, beyond_bounds, bounds_alike, Int-passed}
use Rattle.nm_types.proofs.numeral.read_integer.Goals as goal

pub returns-then-not-is_numeral : goal.returns-then-not-is_numeral
returns-then-not-is_numeral c = integer_bad _ _ _ _ (ap is_numeral (sym c.without_sign.ensures) ∙ sym c.if-not-is_numeral.ensures)

pub returns-in_default : goal.returns-in_default
returns-in_default c =
    let e = ap is_numeral (sym c.without_sign.ensures) ∙ sym c.if-not-is_numeral.ensures in
    let out = beyond_bounds c.args.low c.args.high (signed_digits_value 10 c.args.text.now) c.ranges.low c.ranges.high (λ f. c.in_default.ensures.value.0 (IsNumeral-from_test _ e, f)) in
    integer_out _ _ _ _ e (rw out refl)

pub returns-then-not-meets_bounds : goal.returns-then-not-meets_bounds
returns-then-not-meets_bounds c =
    let e = ap is_numeral (sym c.without_sign.ensures) ∙ sym c.if-not-is_numeral.ensures in
    let number = c.in-Ok.ensures.value.0 in
    integer_out _ _ _ _ e (bounds_alike false c.in-Ok.number _ c.args.low c.args.low c.args.high c.args.high _ number.1 refl refl number.0.1 c.ranges.low c.ranges.high c.if-not-meets_bounds.ensures)

pub returns : goal.returns
returns c =
    let e = ap is_numeral (sym c.without_sign.ensures) ∙ sym c.if-not-is_numeral.ensures in
    let number = c.in-Ok.ensures.value.0 in
    ap Ok (Int-passed c.in-Ok.number _ number.1 number.0.1)
    ∙ integer_in _ _ _ _ e (bounds_alike true c.in-Ok.number _ c.args.low c.args.low c.args.high c.args.high _ number.1 refl refl number.0.1 c.ranges.low c.ranges.high c.if-not-meets_bounds.ensures)
