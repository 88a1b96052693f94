use Rattle.std.proofs.Common.{◌<◌, refl}
use Rattle.std.proofs.lemmas.List.Elements.{All-more}
use Rattle.nm_graph.proofs.Orders.{all_of_take}
use Rattle.nm_graph.proofs.edges.are_below.Goals as goal

pub loop-node-preserved : goal.loop-node-preserved
loop-node-preserved c = All-more (λ node. node < c.args.count) c.args.nodes.now c.loop-node.node-index 0 c.loop-node-test.true c.loop-node.invariant c.if-node-count.false

pub returns : goal.returns
returns c = ((λ _. all_of_take (λ node. node < c.args.count) c.loop-node.node-index c.args.nodes.now c.loop-node-test.false c.loop-node.invariant), (λ _. refl))
