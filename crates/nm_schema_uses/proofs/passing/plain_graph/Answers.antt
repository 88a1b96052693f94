use Rattle.nm_schema_uses.specs.Passing.{is_plain}
use Rattle.nm_schema_uses.proofs.Configs.{picked_more, picked_all, picked-graph, draws-plain}
use Rattle.nm_graph.specs.Graph.{successors_of}
use Rattle.std.proofs.Common.{length, arith}
use Rattle.nm_schema_uses.proofs.passing.plain_graph.Goals as goal

pub loop-nodes-preserved : goal.loop-nodes-preserved
loop-nodes-preserved c = rw c.in_ok-push.ensures.items (picked_more (is_plain c.args.rows.now) c.args.graph.now c.loop-nodes.plain.items c.loop-nodes.nodes-index c.nodes-item.result c.as_slice.result.now c.in_ok-nodes.nodes
    c.requires c.loop-nodes-test.true c.nodes-item.is c.as_slice.ensures.value c.in_ok-nodes.ensures c.loop-nodes.invariant)

pub returns-clause-plain : goal.returns-clause-plain
returns-clause-plain c = draws-plain (successors_of c.args.graph.now) c.args.rows.now (length c.args.graph.now) c.loop-nodes.plain.items
    (picked_all (is_plain c.args.rows.now) c.args.graph.now c.loop-nodes.plain.items c.loop-nodes.nodes-index (omega arith) c.loop-nodes.invariant)

pub returns-clause-graph : goal.returns-clause-graph
returns-clause-graph c = picked-graph (is_plain c.args.rows.now) c.args.graph.now c.loop-nodes.plain.items c.loop-nodes.nodes-index (omega arith) c.loop-nodes.invariant
