use Rattle.std.proofs.Common.{arith, ◌<◌, ◌≤◌, length}
use Rattle.nm_graph.proofs.Orders.{at_most_all}
use Rattle.nm_graph.proofs.growing.complete.Goals as goal

pub loop-smaller : goal.loop-smaller
loop-smaller c =
    let longer : length c.loop.nodes.items < length c.round.new.nodes.items = c.in_ok-round.ensures.longer c.if-branch.true in
    let most : length c.round.new.nodes.items ≤ length c.args.successors.now = at_most_all c.args.successors.now c.round.new.nodes.items c.round.new.marks.items c.in_ok-round.ensures.tells in
    omega (arith, longer, most)
