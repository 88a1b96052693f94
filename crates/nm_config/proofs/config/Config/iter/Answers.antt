use Rattle.std.proofs.Common.{ap, sym, ◌∙◌}
use Rattle.std.specs.FinMap as map
use Rattle.nm_types.specs.PathLaws.{paths_total, path_cmp-IsAntisymmetric}
use Rattle.nm_config.proofs.Maps.{entries-from_entries}
use Rattle.nm_config.proofs.config.Config.iter.Goals as goal

pub returns-clause-entries : goal.returns-clause-entries
returns-clause-entries c =
    c.iter.ensures.rest ∙ sym (entries-from_entries paths_total path_cmp-IsAntisymmetric c.self.inside.tree.entries c.iter.ensures.ordered) ∙ ap map.entries c.self.view_is
