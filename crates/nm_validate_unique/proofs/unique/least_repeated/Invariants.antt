use Rattle.std.proofs.Common.{◌≡◌, map, drop}
use Rattle.std.specs.FinMap.{empty}
use Rattle.nm_validate_places.specs.Least.{least_with}
use Rattle.nm_validate_places.specs.Listed.{AreRows}
use Rattle.nm_validate_unique.specs.Repeated.{repeated}
use Rattle.nm_validate_unique.proofs.unique.least_repeated.Given as goal

abbrev pub invariant-loop-entry : goal.invariant-loop-entry
invariant-loop-entry g l =
    AreRows (g.M.RowMap.rows l.config) l.rest
    × (least_with l.least (repeated l.schema (g.M.RowMap.rows l.config) l.leafs l.seen (map (λ entry. entry.now) (drop l.entry-index l.entries)))
    ≡ least_with l.fn.found (repeated l.schema (g.M.RowMap.rows l.config) l.leafs empty (map (λ entry. entry.now) l.entries)))
