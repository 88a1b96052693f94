use Rattle.std.proofs.Common.{arith, ◌∙◌}
use Rattle.nm_types.proofs.Writing.{shortened-more, shortened-done, shortened-none}
use Rattle.nm_types.proofs.write.shortened.Goals.{then-loop-end-test+else-digits-end-eq48, else-loop-end-test}
use Rattle.nm_types.proofs.write.shortened.Goals as goal

pub loop-end-preserved : goal.loop-end-preserved
loop-end-preserved c = record {
  within = omega arith;
  same = shortened-more c.args.digits.now c.loop-end.end (omega (arith, c.loop-end-test.true)) c.loop-end.invariant.within c.if-digits-end-eq48.true ∙ c.loop-end.invariant.same;
}

pub returns-clause-value : goal.returns-clause-value
returns-clause-value c = elim c.loop-end-test.branch [
  | then-loop-end-test+else-digits-end-eq48 w ↦ shortened-done c.args.digits.now c.loop-end.end (omega (arith, w.loop-end-test.true)) c.loop-end.invariant.within w.if-digits-end-eq48.false ∙ c.loop-end.invariant.same
  | else-loop-end-test w ↦ shortened-none c.args.digits.now c.loop-end.end (omega (arith, w.loop-end-test.false)) ∙ c.loop-end.invariant.same
]
