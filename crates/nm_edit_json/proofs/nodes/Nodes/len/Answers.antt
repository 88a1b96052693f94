use Rattle.std.proofs.Common.{ap, sym, ◌∙◌}
use Rattle.std.specs.FinMap as map
use Rattle.nm_types.specs.PathLaws.{paths_total, path_cmp-IsAntisymmetric}
use Rattle.nm_config.proofs.Maps.{len-from_entries}
use Rattle.nm_edit_json.proofs.nodes.Nodes.len.Goals as goal

pub returns : goal.returns
returns c = c.len.ensures.len ∙ sym (len-from_entries paths_total path_cmp-IsAntisymmetric c.self.inside.tree.entries c.len.ensures.ordered) ∙ ap map.len c.self.view_is
