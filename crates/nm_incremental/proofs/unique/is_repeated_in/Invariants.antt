use Rattle.std.proofs.Common.{◌≡◌, drop}
use Rattle.nm_incremental.specs.Repeats.{is_repeated_in}
use Rattle.nm_incremental.proofs.unique.is_repeated_in.Given as goal

abbrev pub invariant-loop-row : goal.invariant-loop-row
invariant-loop-row g l =
    is_repeated_in l.schema (g.M.RowMap.rows l.config) l.entry l.leafs l.values (drop l.row-index l.rows)
    ≡ is_repeated_in l.schema (g.M.RowMap.rows l.config) l.entry l.leafs l.values l.rows
