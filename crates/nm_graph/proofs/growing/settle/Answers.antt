use Rattle.nm_graph.proofs.Leading.{successors-within}
use Rattle.nm_graph.proofs.growing.settle.Goals as goal

pub first_unmarked-requires : goal.first_unmarked-requires
first_unmarked-requires c = rw (c.successors_of.ensures, c.deref.ensures.value, c.requires.tells.size) (successors-within c.args.successors.now c.requires.graph c.args.node)
