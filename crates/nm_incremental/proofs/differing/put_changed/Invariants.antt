use Rattle.std.proofs.Common.{◌≡◌, ◌++◌}
use Rattle.std.specs.Prelude.{filter}
use Rattle.nm_incremental.specs.Differing.{differs}
use Rattle.nm_incremental.proofs.differing.put_changed.Given as goal

abbrev pub invariant-loop-row : goal.invariant-loop-row
invariant-loop-row g l =
    l.all.items ++ filter (differs (g.B.RowMap.rows l.base) (g.M.RowMap.rows l.next)) l.row-iterator.rest.items
    ≡ l.fn.all.items ++ filter (differs (g.B.RowMap.rows l.base) (g.M.RowMap.rows l.next)) l.fn.rows.items
