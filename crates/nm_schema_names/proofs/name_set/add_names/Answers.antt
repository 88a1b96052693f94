use Rattle.nm_schema_names.proofs.Naming.{add_next, add_end}
use Rattle.nm_schema_names.proofs.name_set.add_names.Goals as goal

pub loop-node-preserved : goal.loop-node-preserved
loop-node-preserved c = λ n. add_next c.args.rows.now c.args.nodes.now c.loop-node.node-index c.loop-node.names c.add.new.self c.in_ok-name.name n _ c.loop-node-test.true c.in_ok-name.ensures (c.in-Ok.ensures n) (c.loop-node.invariant n)

pub returns : goal.returns
returns c = λ n. add_end c.args.rows.now c.args.nodes.now c.loop-node.node-index c.loop-node.names n _ c.loop-node-test.false (c.loop-node.invariant n)
