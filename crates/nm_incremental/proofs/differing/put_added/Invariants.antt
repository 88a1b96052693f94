use Rattle.std.proofs.Common.{◌≡◌, List, ◌++◌, not}
use Rattle.std.specs.Prelude.{filter}
use Rattle.std.specs.FinMap.{contains_key}
use Rattle.nm_types.specs.Path.{PathStep}
use Rattle.nm_incremental.proofs.differing.put_added.Given as goal

abbrev pub invariant-loop-row : goal.invariant-loop-row
invariant-loop-row g l =
    l.all.items ++ filter (λ (row : List PathStep). not (contains_key (g.B.RowMap.rows l.base) row)) l.row-iterator.rest.items
    ≡ l.fn.all.items ++ filter (λ (row : List PathStep). not (contains_key (g.B.RowMap.rows l.base) row)) l.fn.rows.items
