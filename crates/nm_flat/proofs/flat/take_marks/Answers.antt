use Rattle.std.proofs.Common.{◌≡◌, sym, ◌∙◌, arith}
use Rattle.std.specs.FinMap as map
use Rattle.nm_flat.proofs.MarkLemmas.{taken_one, taken_no_more, taken_all}
use Rattle.nm_flat.proofs.flat.take_marks.Goals as goal
use Rattle.nm_flat.proofs.flat.take_marks.Goals.{then-takes, else-takes}

pub loop-number-preserved : goal.loop-number-preserved
loop-number-preserved c = elim c.if-takes.branch [
  | then-takes w ↦
      let e : c.if-takes.all ≡ map.remove c.loop-number.all c.loop-number.number = w.all-is ∙ w.remove.ensures.removed in
      rw e (taken_one c.args.marks.now c.loop-number.number c.args.all.now c.loop-number.all (sym c.takes.ensures ∙ w.if-takes.true) c.loop-number.invariant)
  | else-takes w ↦
      rw w.all-is (taken_no_more c.args.marks.now c.loop-number.number c.args.all.now c.loop-number.all (sym c.takes.ensures ∙ w.if-takes.false) c.loop-number.invariant)
]

pub returns : goal.returns
returns c = let e : c.loop-number.number ≡ 65 = omega arith in
    taken_all c.args.marks.now c.args.all.now c.loop-number.all c.requires (rw e at c.loop-number.invariant)
