use Rattle.std.proofs.Common.{◌≡◌, ◌-◌, length, None}
use Rattle.std.specs.List.{flat_map, range_with_len}
use Rattle.nm_validate_places.specs.Choosing.{missing_places}
use Rattle.nm_validate_places.specs.Least.{least_with}
use Rattle.nm_validate_places.proofs.choices.least_missing_choice.Given as goal

abbrev pub invariant-loop-at : goal.invariant-loop-at
invariant-loop-at g l =
    least_with l.least (flat_map (missing_places l.schema (g.M.RowMap.rows l.config)) (range_with_len l.at (length l.schema.choices - l.at)))
    ≡ least_with None (flat_map (missing_places l.schema (g.M.RowMap.rows l.config)) (range_with_len 0 (length l.schema.choices)))
