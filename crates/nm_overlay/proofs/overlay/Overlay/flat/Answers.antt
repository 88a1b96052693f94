use Rattle.std.proofs.Common.{◌≡◌, IfOk, ap, subst, ◌∙◌, map as each}
use Rattle.std.specs.FinMap as map
use Rattle.std.specs.Map.Iter.{deref_pair}
use Rattle.nm_types.specs.PathLaws.{paths_total, path_cmp-IsAntisymmetric}
use Rattle.nm_config.specs.Rows.{Rows, with_entries}
use Rattle.nm_config.proofs.Maps.{with_own_entries}
use Rattle.nm_overlay.proofs.Said.{said_ascends, said_rows}
use Rattle.nm_overlay.proofs.overlay.Overlay.flat.Goals as goal

pub list-requires : goal.list-requires
list-requires c = said_ascends c.self.inside.pairs c.all.result.now c.all.ensures

pub returns : goal.returns
returns c =
    let rows = said_rows c.self.inside.pairs c.all.result.now c.all.ensures c.self.inside.base.value c.deref.result.now c.deref.ensures
    ∙ ap (λ o. o.rows) c.self.view_is in
    subst (λ (m : Rows). IfOk c.of_rows.result (λ flat. flat ≡ m))
    (ap (with_entries map.empty) (c.in_ok-copies.ensures ∙ ap (each deref_pair) c.deref-2.ensures.value ∙ c.in_ok-rows.ensures ∙ ap map.entries rows)
    ∙ with_own_entries paths_total path_cmp-IsAntisymmetric c.args.self.now.rows)
    c.of_rows.ensures
