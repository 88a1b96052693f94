use Rattle.std.proofs.Common.{◌≡◌, ◌∙◌, length, ap, arith}
use Rattle.nm_schema_faults.specs.Grounded.{Grounded}
use Rattle.nm_schema_faults.proofs.Marking.{marked_more, marked_all}
use Rattle.nm_schema_faults.proofs.grounds.Grounds.misfits.Goals as goal

pub loop-number-preserved : goal.loop-number-preserved
loop-number-preserved c =
    marked_more c.args.self.now.rows c.args.self.now.facts c.loop-number.number c.loop-number.marks.items c.mark.new.marks.items c.loop-number.invariant c.in-Ok.ensures.size c.in-Ok.ensures.marked

pub returns : goal.returns
returns c =
    let bound = c.loop-number.auto.number-end in
    let all : c.loop-number.number ≡ length c.nodes-nodes.result.now = omega (arith, bound, c.loop-number-test.false) in
    marked_all c.args.self.now.rows c.args.self.now.facts c.nodes-nodes.result.now c.loop-number.number c.loop-number.marks.items all (c.nodes-nodes.ensures ∙ ap (λ (g : Grounded). g.facts.nodes) c.self.view_is) c.loop-number.invariant
