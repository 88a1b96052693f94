use Rattle.std.proofs.Common.{length}
use Rattle.nm_schema_uses.specs.Holding.{holding}
use Rattle.nm_schema_uses.proofs.Configs.{settings-along}
use Rattle.nm_schema_uses.proofs.shape.shape_of.Goals as goal

pub invariant_of-result : goal.invariant_of-result
invariant_of-result c = record {
  leads = c.in_ok-graph.ensures.holding;
  within = c.in_ok-graph.ensures.graph;
  bring = c.in_ok-brought.ensures;
  bring_kept = c.in_ok-kept.ensures;
  bring_plain = c.in_ok-plain.ensures;
  settled = settings-along c.args.rows.now (holding c.args.rows.now c.args.groupings.now) (length c.args.rows.now) c.in_ok-graph.graph.items c.in_ok-settings.settings c.in_ok-graph.ensures.holding (rw c.deref-8.ensures.value at c.in_ok-settings.ensures);
}
