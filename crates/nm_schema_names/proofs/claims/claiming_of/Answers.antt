use Rattle.std.proofs.Common.{◌<◌, length, None, IfSome, slice_index_or, sym, subst, arith}
use Rattle.nm_schema_names.proofs.Holders.{held-within}
use Rattle.nm_schema_names.proofs.Drawing.{claiming_more, claiming_all, claiming-graph}
use Rattle.nm_schema_names.proofs.claims.claiming_of.Goals as goal

pub put_claim-requires : goal.put_claim-requires
put_claim-requires c =
    let lt : c.loop-at.at < length c.args.rows.now = omega arith in
    record {
      within = subst (λ n. IfSome (slice_index_or c.args.holders.now c.loop-at.at None) (λ h. h < n)) (sym c.loop-at.invariant.size)
          (held-within c.args.rows.now c.laws.ensures c.loop-at.at (slice_index_or c.args.holders.now c.loop-at.at None) lt (c.requires.holders.each c.loop-at.at lt));
    }

pub loop-at-preserved : goal.loop-at-preserved
loop-at-preserved c =
    let lt : c.loop-at.at < length c.args.rows.now = omega arith in
    claiming_more c.args.rows.now c.args.groupings.now c.loop-at.at c.loop-at.graph.items c.put_claim.new.graph.items (slice_index_or c.args.holders.now c.loop-at.at None) c.loop-at.invariant (c.requires.holders.each c.loop-at.at lt)
    c.in_ok-put_claim.ensures

pub returns-clause-claiming : goal.returns-clause-claiming
returns-clause-claiming c = claiming_all c.args.rows.now c.args.groupings.now c.loop-at.at c.loop-at.graph.items c.loop-at.invariant (omega arith)

pub returns-clause-graph : goal.returns-clause-graph
returns-clause-graph c = claiming-graph c.args.rows.now c.args.groupings.now c.loop-at.graph.items c.requires.named (claiming_all c.args.rows.now c.args.groupings.now c.loop-at.at c.loop-at.graph.items c.loop-at.invariant (omega arith))
