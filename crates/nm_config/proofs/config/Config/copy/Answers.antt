use Rattle.std.proofs.Common.{ap, ◌∙◌}
use Rattle.std.specs.FinMap as map
use Rattle.nm_types.specs.PathLaws.{paths_total, path_cmp-IsAntisymmetric}
use Rattle.nm_config.specs.Rows.{with_entries}
use Rattle.nm_config.proofs.Maps.{with_own_entries}
use Rattle.nm_config.proofs.config.Config.copy.Goals as goal

pub loop-path-init : goal.loop-path-init
loop-path-init c = ap (with_entries c.new-copied.result) (c.into_iter-path-iterator.ensures.into_iter_gives ∙ c.iter-path-items.ensures.entries)
    ∙ ap (λ m. with_entries m (map.entries c.args.self.now)) c.new-copied.ensures ∙ with_own_entries paths_total path_cmp-IsAntisymmetric c.args.self.now
