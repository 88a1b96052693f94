use Rattle.std.proofs.Common.{ap, ◌∙◌}
use Rattle.std.specs.FinMap as map
use Rattle.nm_overlay.specs.Differences.{differences}
use Rattle.nm_overlay.proofs.Changed.{own-differences}
use Rattle.nm_overlay.proofs.overlay.Overlay.pairs.Goals as goal

pub returns : goal.returns
returns c = c.all.ensures ∙ ap map.entries (own-differences c.self.inside.base.value c.self.inside.pairs c.self.invariant
    ∙ ap (λ o. differences o.base o.rows) c.self.view_is)
