use Rattle.std.proofs.Common.{length, arith}
use Rattle.nm_schema_uses.proofs.Graphs.{drawn_more}
use Rattle.nm_schema_names.specs.Clash.{claiming_to}
use Rattle.nm_schema_names.proofs.Drawing.{claiming_to-within}
use Rattle.nm_schema_names.proofs.claims.named_claims.Goals as goal

pub loop-at-preserved : goal.loop-at-preserved
loop-at-preserved c = rw c.in_ok-push.ensures.items (drawn_more (claiming_to c.args.rows.now c.args.groupings.now 0) (length c.args.rows.now) c.loop-at.graph.items c.loop-at.at c.in_ok-nodes.nodes
    (claiming_to-within c.args.rows.now c.args.groupings.now 0 c.loop-at.at c.requires (omega arith)) c.loop-at.invariant c.in_ok-nodes.ensures)
