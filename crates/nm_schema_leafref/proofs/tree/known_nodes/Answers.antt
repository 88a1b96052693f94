use Rattle.std.proofs.Common.{◌≡◌, ap, false, length, List, arith}
use Rattle.nm_schema_nodes.specs.declared.instance.Instance.{Instance}
use Rattle.nm_schema_leafref.specs.Place.{is_known_node}
use Rattle.nm_schema_leafref.proofs.Lists.{lists_more, lists_all}
use Rattle.nm_schema_leafref.proofs.Places.{node-known, node-unknown}
use Rattle.nm_schema_leafref.proofs.tree.known_nodes.Goals as goal

pub loop-node-preserved : goal.loop-node-preserved
loop-node-preserved c = rw c.in_ok-push-in-Ok.ensures.items (lists_more (is_known_node c.args.expansion.now) false c.loop-node.node c.loop-node.known.items c.in-Ok.found c.loop-node.invariant
    (node-known c.args.expansion.now c.loop-node.node c.args.shape.now.rows c.args.shape.now.groupings c.row_of.result c.in-Ok.found c.requires.rows c.requires.groupings c.row_of.ensures c.in-Ok.ensures))

pub returns : goal.returns
returns c =
    let size : length c.nodes-count.result.now ≡ length c.args.expansion.now.nodes = ap (λ (l : List Instance). length l) c.nodes-count.ensures in
    lists_all (is_known_node c.args.expansion.now) false c.loop-node.node c.loop-node.known.items c.loop-node.invariant (λ i le. node-unknown c.args.expansion.now i (omega arith))
