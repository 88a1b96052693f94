use Rattle.std.proofs.Common.{◌≡◌, ◌-◌, length, None}
use Rattle.std.specs.List.{flat_map, range_with_len}
use Rattle.nm_validate_places.specs.Least.{least_with}
use Rattle.nm_validate.specs.Led.{paths_of}
use Rattle.nm_validate.specs.Others.{others_of}
use Rattle.nm_validate.proofs.one_case.least_other_case.Given as goal

abbrev pub invariant-loop-choice : goal.invariant-loop-choice
invariant-loop-choice g l =
    least_with l.least (flat_map (λ k. others_of l.schema (g.M.RowMap.rows l.config) k (paths_of l.places.items)) (range_with_len l.choice (length l.schema.choices - l.choice)))
    ≡ least_with None (flat_map (λ k. others_of l.schema (g.M.RowMap.rows l.config) k (paths_of l.places.items)) (range_with_len 0 (length l.schema.choices)))
