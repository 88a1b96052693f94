use Rattle.std.proofs.Common.{◌≡◌, ◌++◌, drop, map as each}
use Rattle.nm_undo.specs.Inverse.{row_back}
use Rattle.nm_undo.proofs.inverse.rows_back.Given as goal

abbrev pub invariant-loop-change : goal.invariant-loop-change
invariant-loop-change g l =
    l.rows.items ++ each (row_back (g.M.RowMap.rows l.old)) (drop l.change-index l.changes) ≡ each (row_back (g.M.RowMap.rows l.old)) l.changes
