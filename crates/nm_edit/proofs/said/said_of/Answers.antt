use Rattle.nm_edit.specs.Standing.{with_node}
use Rattle.nm_edit.proofs.Steps.{fold_one, fold_all}
use Rattle.nm_edit.proofs.said.said_of.Goals as goal

pub loop-node-preserved : goal.loop-node-preserved
loop-node-preserved c = fold_one with_node c.args.nodes.now c.loop-node.node-index c.node-item.result _ _ _ c.loop-node-test.true c.node-item.is c.in_ok-put_node.ensures c.loop-node.invariant

pub returns : goal.returns
returns c = fold_all with_node c.args.nodes.now c.loop-node.node-index _ _ c.loop-node-test.false c.loop-node.invariant
