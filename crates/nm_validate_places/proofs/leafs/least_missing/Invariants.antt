use Rattle.std.proofs.Common.{◌≡◌, not}
use Rattle.std.specs.Prelude.{filter}
use Rattle.std.specs.FinMap.{contains_key}
use Rattle.nm_validate_places.specs.Least.{least_with}
use Rattle.nm_validate_places.proofs.leafs.least_missing.Given as goal

abbrev pub invariant-loop-path : goal.invariant-loop-path
invariant-loop-path g l = least_with l.least (filter (λ p. not (contains_key (g.M.RowMap.rows l.config) p)) l.path-iterator.rest.items) ≡ least_with l.fn.found (filter (λ p. not (contains_key (g.M.RowMap.rows l.config) p)) l.fn.paths.items)
