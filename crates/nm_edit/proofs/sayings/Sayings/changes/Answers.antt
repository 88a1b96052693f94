use Rattle.std.proofs.Common.{ap, sym, ◌∙◌, ◌++◌}
use Rattle.std.specs.List.{flat_map}
use Rattle.std.specs.FinMap.{entries}
use Rattle.nm_types.specs.PathLaws.{paths_total, path_cmp-IsAntisymmetric}
use Rattle.nm_config.proofs.Maps.{entries-from_entries}
use Rattle.nm_edit.specs.Said.{change_at}
use Rattle.nm_edit.proofs.Exact.{each_change}
use Rattle.nm_edit.proofs.sayings.Sayings.changes.Goals as goal

pub loop-path-init : goal.loop-path-init
loop-path-init g c =
    let old = g.M.RowMap.rows c.args.rows.now in
    ap (λ ps. ps ++ flat_map (change_at old) c.into_iter-path-iterator.result) c.new-changes.ensures.items
    ∙ ap (flat_map (change_at old)) (c.into_iter-path-iterator.ensures.into_iter_gives ∙ c.iter-path-items.ensures.rest
    ∙ sym (entries-from_entries paths_total path_cmp-IsAntisymmetric c.self.inside.tree.entries c.iter-path-items.ensures.ordered))
    ∙ ap (λ m. flat_map (change_at old) (entries m)) c.self.view_is
    ∙ each_change old (entries c.args.self.now)
