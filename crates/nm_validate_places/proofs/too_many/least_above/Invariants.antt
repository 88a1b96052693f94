use Rattle.std.proofs.Common.{◌≡◌, nat_lt}
use Rattle.std.specs.Prelude.{filter}
use Rattle.nm_validate_rules.specs.Values.{count_at}
use Rattle.nm_validate_places.specs.Least.{least_with}
use Rattle.nm_validate_places.proofs.too_many.least_above.Given as goal

abbrev pub invariant-loop-path : goal.invariant-loop-path
invariant-loop-path g l = least_with l.least (filter (λ p. nat_lt l.max (count_at (g.M.RowMap.rows l.config) p)) l.path-iterator.rest.items) ≡ least_with l.fn.found (filter (λ p. nat_lt l.max (count_at (g.M.RowMap.rows l.config) p)) l.fn.paths.items)
