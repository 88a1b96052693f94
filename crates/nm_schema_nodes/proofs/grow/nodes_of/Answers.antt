use Rattle.std.proofs.Common.{◌≡◌, ◌<◌, ◌≤◌, length, slice_get, Some, refl, arith}
use Rattle.std.proofs.lemmas.Option.{slice_get_read}
use Rattle.nm_schema_statements.specs.Rows.{roots}
use Rattle.nm_schema_nodes.proofs.Growth.{grown, weigh-next}
use Rattle.nm_schema_nodes.proofs.Depths.{grown_all}
use Rattle.nm_schema_nodes.proofs.grow.nodes_of.Goals as goal

pub loop-next-smaller : goal.loop-next-smaller
loop-next-smaller c =
    let lt : c.loop-next.next < length c.loop-next.nodes.items = omega arith in
    let at : slice_get c.loop-next.nodes.items c.loop-next.next ≡ Some c.index-node.result.now = slice_get_read c.loop-next.nodes.items (length c.loop-next.nodes.items) c.loop-next.next c.index-node.result.now refl lt c.index-node.ensures in
    let some = weigh-next c.args.shape.now.rows c.args.shape.now.groupings c.loop-next.next c.loop-next.nodes.items c.index-node.result.now at c.loop-next.invariant.counted in
    omega (arith, some, c.loop-next.invariant.bound)

pub loop-next-preserved : goal.loop-next-preserved
loop-next-preserved c =
    let lt : c.loop-next.next < length c.loop-next.nodes.items = omega arith in
    let at : slice_get c.loop-next.nodes.items c.loop-next.next ≡ Some c.index-node.result.now = slice_get_read c.loop-next.nodes.items (length c.loop-next.nodes.items) c.loop-next.next c.index-node.result.now refl lt c.index-node.ensures in
    rw c.in_ok-push_below.ensures (grown c.args.shape.now.rows c.args.shape.now.groupings (length (roots c.args.shape.now.rows)) c.loop-next.next c.loop-next.nodes.items c.index-node.result.now at c.loop-next.invariant)

pub returns : goal.returns
returns c =
    let le : length c.loop-next.nodes.items ≤ c.loop-next.next = omega arith in
    grown_all c.args.shape.now.rows c.args.shape.now.groupings c.loop-next.next c.loop-next.nodes.items le c.loop-next.invariant
