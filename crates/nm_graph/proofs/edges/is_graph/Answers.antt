use Rattle.std.proofs.Common.{◌<◌, ◌≡◌, All, length, refl, ap, sym, subst}
use Rattle.std.proofs.lemmas.List.Elements.{All-more}
use Rattle.nm_graph.proofs.Orders.{all_of_take}
use Rattle.nm_graph.proofs.edges.is_graph.Goals as goal

pub loop-nodes-preserved : goal.loop-nodes-preserved
loop-nodes-preserved c =
    let row = c.nodes-item.result in
    let below : All (λ node. node < length c.args.successors.now) row.items = rw c.as_slice.ensures.value at (c.are_below.ensures.0 c.if-not-are_below.false) in
    All-more (λ row. All (λ node. node < length c.args.successors.now) row.items) c.args.successors.now c.loop-nodes.nodes-index row c.loop-nodes-test.true c.loop-nodes.invariant (rw c.nodes-item.is at below)

pub returns : goal.returns
returns c = ((λ _. all_of_take (λ row. All (λ node. node < length c.args.successors.now) row.items) c.loop-nodes.nodes-index c.args.successors.now c.loop-nodes-test.false c.loop-nodes.invariant), (λ _. refl))
