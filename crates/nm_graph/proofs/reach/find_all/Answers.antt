use Rattle.std.proofs.Common.{◌+◌}
use Rattle.nm_graph.proofs.Finding.{finds-more}
use Rattle.nm_graph.proofs.reach.find_all.Goals as goal

pub loop-node-preserved : goal.loop-node-preserved
loop-node-preserved c = record {
  sound = c.in-Ok.ensures.sound;
  found = finds-more c.args.search.now c.loop-node.search c.find.new.search c.args.nodes.now c.loop-node.node-index c.loop-node-test.true c.loop-node.invariant.found c.in-Ok.ensures.found;
}
