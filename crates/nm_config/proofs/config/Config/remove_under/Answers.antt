use Rattle.std.proofs.Common.{ap, ◌∙◌}
use Rattle.std.specs.Prelude.{not}
use Rattle.std.specs.FinMap as map
use Rattle.nm_types.specs.PathLaws.{paths_total, path_cmp-IsAntisymmetric}
use Rattle.nm_config.specs.Under.{is_under, without_rows, without_under}
use Rattle.nm_config.proofs.Maps.{from_entries-filter}
use Rattle.nm_config.proofs.Ranges.{without_under_rows}
use Rattle.nm_config.proofs.config.Config.remove_under.Goals as goal

pub returns-in-Ok : goal.returns-in-Ok
returns-in-Ok c = c.remove_rows.ensures ∙ ap (without_rows (map.from_entries c.self.inside.tree.entries)) (c.deref.ensures.value ∙ c.in-Ok.ensures.copies)
    ∙ without_under_rows c.args.node.now c.self.inside.tree.entries ∙ ap (λ m. without_under m c.args.node.now) c.self.view_is

pub returns-in-Err : goal.returns-in-Err
returns-in-Err c = ap map.from_entries c.keep_outside.ensures
    ∙ from_entries-filter paths_total path_cmp-IsAntisymmetric (λ path. not (is_under c.args.node.now path)) c.self.inside.tree.entries
    ∙ ap (λ m. without_under m c.args.node.now) c.self.view_is
