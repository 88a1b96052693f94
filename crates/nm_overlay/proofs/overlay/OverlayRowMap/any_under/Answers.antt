use Rattle.std.proofs.Common.{ap, ◌∙◌}
use Rattle.nm_config.specs.Under.{has_under}
use Rattle.nm_overlay.specs.Differences.{overridden}
use Rattle.nm_overlay.proofs.overlay.OverlayRowMap.any_under.Goals as goal

pub returns : goal.returns
returns c = c.any_under.ensures ∙ ap (λ b. has_under (overridden b c.self.inside.pairs) c.args.node.now) c.deref.ensures
    ∙ ap (λ o. has_under o.rows c.args.node.now) c.self.view_is
