use Rattle.std.proofs.Common.{◌≡◌, length}
use Rattle.nm_schema_leafref.proofs.Targets.{MarkOnly}
use Rattle.nm_schema_leafref.proofs.graph.marked.Given as goal

abbrev pub invariant-loop-node : goal.invariant-loop-node
invariant-loop-node l = record {
  size : length l.marks.items ≡ l.count;
  only : MarkOnly l.nodes l.marks.items;
}
