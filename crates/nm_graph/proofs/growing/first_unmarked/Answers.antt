use Rattle.std.proofs.Common.{refl}
use Rattle.std.proofs.lemmas.List.Elements.{All-more}
use Rattle.nm_graph.specs.Order.{IsMarked}
use Rattle.nm_graph.proofs.Orders.{all_of_take}
use Rattle.nm_graph.proofs.growing.first_unmarked.Goals as goal

pub loop-node-preserved : goal.loop-node-preserved
loop-node-preserved c = All-more (IsMarked c.args.marks.now) c.args.nodes.now c.loop-node.node-index 0 c.loop-node-test.true c.loop-node.invariant c.if-not-marks-node.false

pub returns-clause-none : goal.returns-clause-none
returns-clause-none c = all_of_take (IsMarked c.args.marks.now) c.loop-node.node-index c.args.nodes.now c.loop-node-test.false c.loop-node.invariant
