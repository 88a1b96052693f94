use Rattle.nm_flat.proofs.MarkLemmas.{TakenBelow}
use Rattle.nm_flat.proofs.flat.take_marks.Given as goal

abbrev pub invariant-loop-number : goal.invariant-loop-number
invariant-loop-number l = TakenBelow l.marks l.number l.fn.all l.all
