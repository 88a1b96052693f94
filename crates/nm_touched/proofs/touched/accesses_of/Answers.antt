use Rattle.std.proofs.Common.{◌++◌, map as each, ap, sym, ◌∙◌, append_assoc}
use Rattle.nm_touched.specs.Touched.{touch}
use Rattle.nm_touched.proofs.touched.accesses_of.Goals as goal

pub loop-path-preserved : goal.loop-path-preserved
loop-path-preserved g c =
    let old = g.M.RowMap.rows c.args.rows.now in
    let left = each (touch old) c.next.new.self.rest.items in
    ap (λ ts. ts ++ left) c.in_ok-put_touch.ensures
    ∙ append_assoc c.loop-path.touched.items _ left
    ∙ ap (λ cs. c.loop-path.touched.items ++ each (touch old) cs) (sym c.in-Some.ensures.steps.0)
    ∙ c.loop-path.invariant
