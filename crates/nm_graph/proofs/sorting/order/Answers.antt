use Rattle.std.proofs.Common.{rules, ◌≡◌, false, length, replicate}
use Rattle.nm_graph.proofs.Orders.{tells_none, at_most_all, within_graph}
use Rattle.nm_graph.proofs.Acyclic.{marked-acyclic}
use Rattle.nm_graph.proofs.sorting.order.Goals as goal

pub add_each-requires-clause-tells : goal.add_each-requires-clause-tells
add_each-requires-clause-tells c =
    let unmarked : c.in_ok-marks.marks.items ≡ replicate (length c.args.successors.now) false = search rules in
    rw (c.new-nodes.ensures.items) (tells_none c.args.successors.now c.in_ok-marks.marks.items unmarked)

pub least_cycle-requires-clause-marked : goal.least_cycle-requires-clause-marked
least_cycle-requires-clause-marked c = rw (c.deref-2.ensures.value) (marked-acyclic c.args.successors.now c.complete.new.nodes.items c.complete.new.marks.items c.in_ok-complete.ensures.tells)

pub returns-clause-order : goal.returns-clause-order
returns-clause-order c =
    let tells = c.in_ok-complete.ensures.tells in
    record { order = tells.order; settled = c.in_ok-complete.ensures.settled; most = at_most_all c.args.successors.now c.complete.new.nodes.items c.complete.new.marks.items tells; within = within_graph c.args.successors.now c.complete.new.nodes.items c.complete.new.marks.items tells }
