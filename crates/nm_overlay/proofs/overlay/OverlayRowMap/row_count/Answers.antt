use Rattle.std.proofs.Common.{ap, ◌∙◌}
use Rattle.std.specs.FinMap as map
use Rattle.nm_config.specs.Rows.{counted}
use Rattle.nm_overlay.proofs.Said.{said_ascends, said_changes, said_rows}
use Rattle.nm_overlay.proofs.overlay.OverlayRowMap.row_count.Goals as goal

pub count-requires-clause-ascends : goal.count-requires-clause-ascends
count-requires-clause-ascends c = said_ascends c.self.inside.pairs c.all.result.now c.all.ensures

pub count-requires-clause-changes : goal.count-requires-clause-changes
count-requires-clause-changes c = said_changes c.self.inside.pairs c.all.result.now c.all.ensures c.self.inside.base.value c.deref.result.now c.deref.ensures c.self.invariant

pub returns : goal.returns
returns c = c.count.ensures ∙ ap (λ m. counted (map.len m)) (said_rows c.self.inside.pairs c.all.result.now c.all.ensures c.self.inside.base.value c.deref.result.now c.deref.ensures
    ∙ ap (λ o. o.rows) c.self.view_is)
