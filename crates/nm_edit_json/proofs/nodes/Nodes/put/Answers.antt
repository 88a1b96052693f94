use Rattle.std.proofs.Common.{ap, ◌∙◌}
use Rattle.std.specs.FinMap as map
use Rattle.nm_types.specs.PathLaws.{paths_total, path_cmp-IsAntisymmetric}
use Rattle.nm_config.proofs.Maps.{one_inserted}
use Rattle.nm_edit_json.proofs.nodes.Nodes.put.Goals as goal

pub returns : goal.returns
returns c =
    one_inserted paths_total path_cmp-IsAntisymmetric c.self.inside.tree.entries c.insert.new.self.entries c.args.path c.args.told c.in_ok-before.ensures.updates.0
    ∙ ap (λ m. map.insert m c.args.path c.args.told) c.self.view_is
