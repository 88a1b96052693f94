use Rattle.std.proofs.Common.{List}
use Rattle.nm_types.specs.Path.{PathStep}
use Rattle.nm_types.specs.declared.value.Value.{Value}
use Rattle.nm_types.specs.declared.value.Value.TheVariants.{Present}
use Rattle.nm_types.specs.PathLaws.{paths_total, path_cmp-IsAntisymmetric}
use Rattle.nm_config.specs.Rough.{of_steps}
use Rattle.nm_config.proofs.Sorted.{same_entries, answers_always}
use Rattle.nm_config.proofs.config.in_rough_order.Goals as goal

pub returns : goal.returns
returns c = same_entries paths_total path_cmp-IsAntisymmetric Present of_steps c.args.rows.items c.sort_by_cached_key.new.self.items
    (c.in_ok-sort_by_cached_key.ensures.stable (λ (row : List PathStep × Value). of_steps row.0) (answers_always _ _ (λ f a r f' k. k.met) _))
