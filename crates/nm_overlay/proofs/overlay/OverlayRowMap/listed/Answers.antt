use Rattle.std.proofs.Common.{◌≡◌, IfOk, ap, subst, ◌∙◌, map as each}
use Rattle.std.specs.FinMap as map
use Rattle.std.specs.Map.Iter.{deref_pair}
use Rattle.nm_config.specs.Rows.{Rows}
use Rattle.nm_overlay.proofs.Said.{said_ascends, said_rows}
use Rattle.nm_overlay.proofs.overlay.OverlayRowMap.listed.Goals as goal

pub list-requires : goal.list-requires
list-requires c = said_ascends c.self.inside.pairs c.all.result.now c.all.ensures

pub returns : goal.returns
returns c = subst (λ (m : Rows). IfOk c.list.result (λ all. each deref_pair all.items ≡ map.entries m))
    (said_rows c.self.inside.pairs c.all.result.now c.all.ensures c.self.inside.base.value c.deref.result.now c.deref.ensures
    ∙ ap (λ o. o.rows) c.self.view_is) c.list.ensures
