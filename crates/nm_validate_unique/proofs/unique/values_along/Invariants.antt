use Rattle.std.proofs.Common.{◌≡◌, ◌++◌, map, drop, option_map}
use Rattle.nm_validate_rules.specs.Values.{all_there, unique_values}
use Rattle.nm_validate_unique.specs.Repeated.{value_in}
use Rattle.nm_validate_unique.proofs.unique.values_along.Given as goal

abbrev pub invariant-loop-way : goal.invariant-loop-way
invariant-loop-way g l =
    option_map (λ more. l.values.items ++ more) (all_there (map (value_in l.schema (g.M.RowMap.rows l.config) l.entry) (map (λ way. way.leaf) (drop l.way-index l.ways))))
    ≡ unique_values l.schema (g.M.RowMap.rows l.config) l.entry (map (λ way. way.leaf) l.ways)
