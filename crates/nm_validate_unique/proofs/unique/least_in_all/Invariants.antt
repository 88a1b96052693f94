use Rattle.std.proofs.Common.{◌≡◌, map, drop}
use Rattle.std.specs.List.{flat_map}
use Rattle.std.specs.FinMap.{empty}
use Rattle.nm_validate_places.specs.Least.{least_with}
use Rattle.nm_validate_unique.specs.Repeated.{repeated}
use Rattle.nm_validate_unique.proofs.unique.least_in_all.Given as goal

abbrev pub invariant-loop-leafs : goal.invariant-loop-leafs
invariant-loop-leafs g l =
    least_with l.least (flat_map (λ leafs. repeated l.schema (g.M.RowMap.rows l.config) leafs empty (map (λ entry. entry.now) l.entries)) (drop l.leafs-index l.uniques))
    ≡ least_with l.fn.found (flat_map (λ leafs. repeated l.schema (g.M.RowMap.rows l.config) leafs empty (map (λ entry. entry.now) l.entries)) l.uniques)
