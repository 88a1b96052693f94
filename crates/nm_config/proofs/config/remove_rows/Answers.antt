use Rattle.std.proofs.Common.{◌∙◌}
use Rattle.nm_config.proofs.Ranges.{removed-turn}
use Rattle.nm_config.proofs.config.remove_rows.Goals as goal

pub loop-path-preserved : goal.loop-path-preserved
loop-path-preserved c =
    removed-turn c.loop-path.tree.entries c.remove.new.self.entries c.args.rows.now c.loop-path.path-index c.loop-path-item.result c.loop-path-test.true c.loop-path-item.is c.remove.ensures.updates.0
    ∙ c.loop-path.invariant
