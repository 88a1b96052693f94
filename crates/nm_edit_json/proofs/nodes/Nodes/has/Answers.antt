use Rattle.std.proofs.Common.{ap, sym, ◌∙◌, is_some}
use Rattle.std.specs.FinMap as map
use Rattle.nm_types.specs.PathLaws.{paths_total, path_cmp-IsAntisymmetric}
use Rattle.nm_config.proofs.Maps.{get_lookup}
use Rattle.nm_edit_json.proofs.Mapped.{some_mapped}
use Rattle.nm_edit_json.proofs.nodes.Nodes.has.Goals as goal

pub returns : goal.returns
returns c =
    c.is_some.ensures ∙ some_mapped (λ told. told.now) c.get.result ∙ ap is_some (c.get.ensures.value ∙ sym (get_lookup paths_total path_cmp-IsAntisymmetric c.self.inside.tree.entries c.args.path.now))
    ∙ ap (λ m. is_some (map.get m c.args.path.now)) c.self.view_is
