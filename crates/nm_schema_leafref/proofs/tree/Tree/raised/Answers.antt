use Rattle.std.proofs.Common.{◌<◌, ◌-◌, ◌∙◌, sym, ap, arith}
use Rattle.nm_schema_leafref.specs.Walk as spec
use Rattle.nm_schema_leafref.specs.declared.led.Spot.{Spot}
use Rattle.nm_schema_leafref.proofs.Walks.{raised-next, raised-missing}
use Rattle.nm_schema_leafref.proofs.tree.Tree.raised.Goals as goal

pub returns-in-Missing : goal.returns-in-Missing
returns-in-Missing c = sym (raised-missing c.args.self.now c.loop-left.left) ∙ ap (λ (s : Spot). spec.raised c.args.self.now c.loop-left.left s) (sym c.in-Missing.is) ∙ c.loop-left.invariant

pub loop-left-preserved : goal.loop-left-preserved
loop-left-preserved c =
    let lt : 0 < c.loop-left.left = omega arith in
    ap (λ (s : Spot). spec.raised c.args.self.now (c.loop-left.left - 1) s) c.above-spot.ensures ∙ sym (raised-next c.args.self.now c.loop-left.left c.loop-left.spot lt) ∙ c.loop-left.invariant
