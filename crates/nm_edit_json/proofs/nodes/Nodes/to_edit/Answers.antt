use Rattle.std.proofs.Common.{ap, sym, ◌∙◌, map, ◌++◌}
use Rattle.nm_types.specs.PathLaws.{paths_total, path_cmp-IsAntisymmetric}
use Rattle.nm_config.proofs.Maps.{entries-from_entries}
use Rattle.nm_edit_json.specs.Whole.{node_at, nodes_in}
use Rattle.nm_edit_json.proofs.nodes.Nodes.to_edit.Goals as goal

pub loop-path-init : goal.loop-path-init
loop-path-init c =
    ap (λ ns. ns ++ map node_at c.into_iter-path-iterator.result) c.in_ok-nodes.ensures.items
    ∙ ap (map node_at) (c.into_iter-path-iterator.ensures.into_iter_gives ∙ c.iter-path-items.ensures.rest
    ∙ sym (entries-from_entries paths_total path_cmp-IsAntisymmetric c.self.inside.tree.entries c.iter-path-items.ensures.ordered))
    ∙ ap nodes_in c.self.view_is
