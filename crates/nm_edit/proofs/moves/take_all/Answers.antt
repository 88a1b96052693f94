use Rattle.std.proofs.Common.{◌∙◌}
use Rattle.nm_config.specs.Under.{without_under}
use Rattle.nm_edit.proofs.Steps.{fold_one, fold_all}
use Rattle.nm_edit.proofs.moves.take_all.Goals as goal

pub loop-node-preserved : goal.loop-node-preserved
loop-node-preserved g c = record {
  left = fold_one without_under c.args.nodes.now c.loop-node.node-index c.node-item.result _ _ _ c.loop-node-test.true c.node-item.is c.in_ok-take_under.ensures.ok c.loop-node.invariant.left;
  base = c.in_ok-take_under.ensures.base ∙ c.loop-node.invariant.base;
}

pub returns-clause-taken : goal.returns-clause-taken
returns-clause-taken g c = fold_all without_under c.args.nodes.now c.loop-node.node-index _ _ c.loop-node-test.false c.loop-node.invariant.left
