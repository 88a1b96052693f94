use Rattle.nm_schema_names.specs.Clash.{holder_of}
use Rattle.nm_schema_names.proofs.Filling.{filled_more}
use Rattle.nm_schema_names.proofs.claims.holders_of.Goals as goal

pub loop-at-preserved : goal.loop-at-preserved
loop-at-preserved c = rw c.in_ok-push.ensures.items (filled_more (holder_of c.args.rows.now) c.loop-at.at c.loop-at.holders.items c.next_holder-holder.result c.loop-at.invariant c.next_holder-holder.ensures)
