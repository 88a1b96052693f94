use Rattle.nm_schema_leafref.proofs.Targets.{MarksBelow}
use Rattle.nm_schema_leafref.proofs.graph.circular.Given as goal

abbrev pub invariant-loop-node : goal.invariant-loop-node
invariant-loop-node l = MarksBelow l.graph l.node l.marks.items
