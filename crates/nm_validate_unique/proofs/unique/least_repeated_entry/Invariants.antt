use Rattle.std.proofs.Common.{◌≡◌, ◌-◌, length, None}
use Rattle.std.specs.List.{flat_map, range_with_len}
use Rattle.nm_validate_rules.specs.Cases.{numbers}
use Rattle.nm_validate_places.specs.Groups.{in_group}
use Rattle.nm_validate_places.specs.Least.{least_with}
use Rattle.nm_validate_unique.specs.Repeated.{repeated_at}
use Rattle.nm_validate_unique.proofs.unique.least_repeated_entry.Given as goal

abbrev pub invariant-loop-at : goal.invariant-loop-at
invariant-loop-at g l =
    least_with l.least (flat_map (λ x. repeated_at l.schema (g.M.RowMap.rows l.config) (in_group l.grouped.groups.items x) x) (range_with_len l.at (length l.schema.nodes - l.at)))
    ≡ least_with None (flat_map (λ x. repeated_at l.schema (g.M.RowMap.rows l.config) (in_group l.grouped.groups.items x) x) (numbers l.schema.nodes))
