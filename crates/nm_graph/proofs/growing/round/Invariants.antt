use Rattle.std.proofs.Common.{◌≡◌, ◌<◌, length, true, false}
use Rattle.nm_graph.specs.Order.{AreSettled, Tells}
use Rattle.nm_graph.proofs.growing.round.Given as goal

abbrev pub invariant-loop-node : goal.invariant-loop-node
invariant-loop-node l = record {
  tells : Tells l.successors l.nodes.items l.marks.items;
  longer : l.added ≡ true → length l.fn.nodes.items < length l.nodes.items;
  same : l.added ≡ false → l.nodes.items ≡ l.fn.nodes.items;
  settled : l.added ≡ false → AreSettled l.successors l.fn.nodes.items l.node;
}
