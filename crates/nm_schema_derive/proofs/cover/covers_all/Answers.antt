use Rattle.std.proofs.Common.{pos, sym, ◌∙◌}
use Rattle.nm_schema_derive.proofs.Covers.{one_outside, one_inside, left_ascends}
use Rattle.nm_schema_derive.proofs.cover.covers_all.Goals as goal

pub returns-in-None : goal.returns-in-None
returns-in-None c =
    let none = one_outside c.loop-part.rest.now c.args.parts.now c.loop-part.part-index (pos 0, pos 0) c.loop-part-test.true (sym c.in-None.ensures) in
    sym none ∙ c.loop-part.invariant.same

pub loop-part-preserved : goal.loop-part-preserved
loop-part-preserved c =
    let some = one_inside c.loop-part.rest.now c.in-Some.left.now c.args.parts.now c.loop-part.part-index (pos 0, pos 0) c.loop-part-test.true (sym c.in-Some.ensures) c.loop-part.invariant.ascend in
    let left = left_ascends c.loop-part.rest.now c.in-Some.left.now _ _ c.loop-part.invariant.left (sym c.in-Some.ensures) in
    record { left = left; ascend = some.0; same = some.1 ∙ c.loop-part.invariant.same }
