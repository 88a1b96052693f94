use Rattle.std.proofs.Common.{◌≤◌, ◌^◌, min, List, ℕ, true, false, Ok, ap, ◌∙◌, arith, option_map}
use Rattle.nm_types.specs.Reading.{magnitude_of}
use Rattle.nm_types.proofs.Integers.{bounds_alike}
use Rattle.nm_types.proofs.Decimals.{option_some, decimal_bad, decimal_in, decimal_out, Decimal-passed, with_sign-fits, lowest_fits, highest_fits}
use Rattle.nm_types.proofs.decimal.read_decimal.Goals as goal

pub returns-in_default : goal.returns-in_default
returns-in_default c = decimal_bad _ _ _ (c.in_default.ensures ∙ ap (λ (r : List ℕ). option_map (λ m. min m (2 ^ 64)) (magnitude_of c.args.digits r)) c.without_sign.ensures)

pub returns-then-not-meets_bounds : goal.returns-then-not-meets_bounds
returns-then-not-meets_bounds c =
    let some = option_some _ c.in-Some.magnitude (c.in-Some.ensures ∙ ap (λ (r : List ℕ). option_map (λ m. min m (2 ^ 64)) (magnitude_of c.args.digits r)) c.without_sign.ensures) in
    let small : c.in-Some.magnitude ≤ 2 ^ 64 = omega (arith, some.2) in
    let fits = with_sign-fits c.args.text.now c.in-Some.magnitude small in
    decimal_out _ _ _ some.0 c.in-Some.magnitude some.1 some.2
    (bounds_alike false c.signed-scaled.result _ c.from.result _ c.from-2.result _ _ c.signed-scaled.ensures c.from.ensures c.from-2.ensures fits lowest_fits highest_fits c.if-not-meets_bounds.ensures)

pub returns : goal.returns
returns c =
    let some = option_some _ c.in-Some.magnitude (c.in-Some.ensures ∙ ap (λ (r : List ℕ). option_map (λ m. min m (2 ^ 64)) (magnitude_of c.args.digits r)) c.without_sign.ensures) in
    let small : c.in-Some.magnitude ≤ 2 ^ 64 = omega (arith, some.2) in
    let fits = with_sign-fits c.args.text.now c.in-Some.magnitude small in
    let within = bounds_alike true c.signed-scaled.result _ c.from.result _ c.from-2.result _ _ c.signed-scaled.ensures c.from.ensures c.from-2.ensures fits lowest_fits highest_fits c.if-not-meets_bounds.ensures in
    ap Ok (Decimal-passed c.signed-scaled.result _ c.args.digits _ c.signed-scaled.ensures fits within)
    ∙ decimal_in _ _ _ some.0 c.in-Some.magnitude some.1 some.2 within
