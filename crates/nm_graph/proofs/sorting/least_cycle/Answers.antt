use Rattle.nm_graph.proofs.Acyclic.{acyclic-from_below}
use Rattle.nm_graph.proofs.sorting.least_cycle.Goals as goal

pub returns-clause-none : goal.returns-clause-none
returns-clause-none c = acyclic-from_below c.args.successors.now c.loop-node.node c.loop-node-test.false c.loop-node.invariant
