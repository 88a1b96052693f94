use Rattle.std.proofs.Common.{◌≡◌, ◌≤◌, ◌+◌, length, map}
use Rattle.std.specs.List.{find}
use Rattle.std.specs.FinMap.{keys}
use Rattle.nm_validate_rules.specs.Violated.{violated}
use Rattle.nm_validate_places.specs.Listed.{Row}
use Rattle.nm_incremental.specs.Read.{looked_at}
use Rattle.nm_incremental.proofs.local.first_violated.Given as goal

abbrev pub invariant-loop-path : goal.invariant-loop-path
invariant-loop-path g l =
    (find (violated l.schema (g.M.RowMap.rows l.next) l.rule) (map (λ (e : Row). e.0) l.path-iterator) ≡ find (violated l.schema (g.M.RowMap.rows l.next) l.rule) (keys l.paths))
    × (l.steps + length l.path-iterator ≤ l.fn.steps + length (keys l.paths))
    × (l.steps + looked_at (violated l.schema (g.M.RowMap.rows l.next) l.rule) (map (λ (e : Row). e.0) l.path-iterator)
    ≡ l.fn.steps + looked_at (violated l.schema (g.M.RowMap.rows l.next) l.rule) (keys l.paths))
