use Rattle.std.proofs.Common.{rules, ◌≡◌, ◌+◌, ℤ, pos, FitsSigned, to_z, of_z, get_or, drop, false, subst, ap, ◌∙◌}
use Rattle.std.specs.Prelude.{int_le, int_lt}
use Rattle.std.specs.Int.{w128}
use Rattle.std.proofs.lemmas.Int.{to_z-of_z}
use Rattle.nm_schema_derive.specs.Cover.{rest_from}
use Rattle.nm_schema_derive.proofs.Covers.{rest_on, step_up}
use Rattle.nm_schema_derive.proofs.cover.walked_from.Goals as goal

pub loop-place-preserved : goal.loop-place-preserved
loop-place-preserved c =
    let low = to_z w128 c.loop-place.low-bits in
    let high = c.args.part.now.1 in
    let held = get_or c.args.base.now c.loop-place.place (pos 0, pos 0) in
    let f0 : FitsSigned w128 held.0 = search rules in
    let f1 : FitsSigned w128 held.1 = search rules in
    let fh : FitsSigned w128 high = search rules in
    let e0 = to_z-of_z w128 held.0 f0 in
    let e1 = to_z-of_z w128 held.1 f1 in
    let eh = to_z-of_z w128 high fh in
    let a : int_lt held.1 low ≡ false = subst (λ z. int_lt z low ≡ false) e1 c.if-held-low.false in
    let b : int_lt low held.0 ≡ false = subst (λ z. int_lt low z ≡ false) e0 c.if-low-held.false in
    let d : int_le high held.1 ≡ false = subst (λ z. int_le z held.1 ≡ false) eh (subst (λ z. int_le (to_z w128 (of_z w128 high)) z ≡ false) e1 c.if-part-held.false) in
    ap (λ (z : ℤ). rest_from (drop (c.loop-place.place + 1) c.args.base.now) z high) (step_up held.1 high f1 fh d)
    ∙ rest_on c.args.base.now c.loop-place.place (pos 0, pos 0) low high c.loop-place-test.true a b d
    ∙ c.loop-place.invariant
