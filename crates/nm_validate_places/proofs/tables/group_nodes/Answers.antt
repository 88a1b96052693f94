use Rattle.std.proofs.Common.{length, ap}
use Rattle.nm_validate_places.proofs.Tabled.{over_is, one_node}
use Rattle.nm_validate_places.proofs.tables.group_nodes.Goals as goal

pub loop-at-preserved : goal.loop-at-preserved
loop-at-preserved c =
    let t = c.args.schema.now in
    let over = over_is t c.loop-at.at (length c.cases-most.result.now) c.case_in.result (ap length c.cases-most.ensures) c.case_in.ensures in
    one_node t c.args.by c.args.count c.loop-at.at _ c.loop-at.groups.items c.put_outwards.new.groups.items over c.in_ok-put_outwards.ensures c.loop-at.invariant
