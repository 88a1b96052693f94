use Rattle.std.proofs.Common.{ap, ◌∙◌}
use Rattle.std.specs.FinMap as map
use Rattle.nm_overlay.specs.Differences.{overridden}
use Rattle.nm_overlay.proofs.overlay.OverlayRowMap.value.Goals as goal

pub returns : goal.returns
returns c = c.value_of.ensures ∙ ap (λ b. map.get (overridden b c.self.inside.pairs) c.args.path.now) c.deref.ensures
    ∙ ap (λ o. map.get o.rows c.args.path.now) c.self.view_is
