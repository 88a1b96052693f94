use Rattle.std.proofs.Common.{ap, sym, ◌∙◌}
use Rattle.std.specs.FinMap as map
use Rattle.nm_types.specs.PathLaws.{paths_total, path_cmp-IsAntisymmetric}
use Rattle.nm_config.proofs.Maps.{get_lookup}
use Rattle.nm_edit.proofs.said.Said.get.Goals as goal

pub returns : goal.returns
returns c =
    c.copied.ensures ∙ c.get.ensures.value ∙ sym (get_lookup paths_total path_cmp-IsAntisymmetric c.self.inside.tree.entries c.args.path.now) ∙ ap (λ m. map.get m c.args.path.now) c.self.view_is
