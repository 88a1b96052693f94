use Rattle.nm_graph.proofs.Orders.{tells_after}
use Rattle.nm_graph.proofs.growing.add.Goals as goal

pub returns-clause-tells : goal.returns-clause-tells
returns-clause-tells c = rw (c.in_ok-push.ensures.items) (tells_after c.args.successors.now c.args.nodes.now.items c.args.marks.now.items c.args.node c.requires.tells c.requires.within c.requires.ready c.requires.new)
