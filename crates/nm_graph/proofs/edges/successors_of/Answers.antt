use Rattle.std.proofs.Common.{◌∙◌, arith, ◌≡◌, get_or}
use Rattle.nm_graph.proofs.Leading.{successors-read}
use Rattle.nm_graph.proofs.edges.successors_of.Goals as goal

pub returns : goal.returns
returns c = c.as_slice.ensures.value ∙ successors-read c.args.successors.now c.args.node c.index-successors-node.result (omega arith) c.index-successors-node.is
