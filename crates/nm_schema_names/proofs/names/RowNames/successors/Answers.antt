use Rattle.nm_schema_names.proofs.Graphs.{begun_more}
use Rattle.nm_schema_names.proofs.names.RowNames.successors.Goals as goal

pub loop-at-preserved : goal.loop-at-preserved
loop-at-preserved c =
    begun_more c.args.self.now c.loop-at.at c.loop-at.graph.items c.push.new.self.items c.in-Ok.list c.loop-at.invariant c.in-Ok.ensures c.in_ok-push-in-Ok.ensures.items
