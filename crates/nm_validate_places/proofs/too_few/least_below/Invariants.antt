use Rattle.std.proofs.Common.{◌≡◌}
use Rattle.std.specs.Prelude.{filter}
use Rattle.nm_validate_places.specs.Least.{least_with}
use Rattle.nm_validate_places.specs.Wanted.{is_short}
use Rattle.nm_validate_places.proofs.too_few.least_below.Given as goal

abbrev pub invariant-loop-path : goal.invariant-loop-path
invariant-loop-path g l =
    least_with l.least (filter (is_short l.schema (g.M.RowMap.rows l.config) l.min l.others) l.path-iterator.rest.items)
    ≡ least_with l.fn.found (filter (is_short l.schema (g.M.RowMap.rows l.config) l.min l.others) l.fn.paths.items)
