use Rattle.std.proofs.Common.{◌≡◌, drop}
use Rattle.std.specs.List.{list_any}
use Rattle.nm_incremental.specs.Repeats.{is_repeated_at}
use Rattle.nm_incremental.proofs.unique.is_repeated_in_all.Given as goal

abbrev pub invariant-loop-leafs : goal.invariant-loop-leafs
invariant-loop-leafs g l =
    list_any (is_repeated_at l.schema (g.M.RowMap.rows l.config) l.entry) (drop l.leafs-index l.uniques)
    ≡ list_any (is_repeated_at l.schema (g.M.RowMap.rows l.config) l.entry) l.uniques
