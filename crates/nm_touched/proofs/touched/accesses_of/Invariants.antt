use Rattle.std.proofs.Common.{◌≡◌, ◌++◌, map as each}
use Rattle.nm_touched.specs.Touched.{touch}
use Rattle.nm_touched.proofs.touched.accesses_of.Given as goal

abbrev pub invariant-loop-path : goal.invariant-loop-path
invariant-loop-path g l =
    l.touched.items ++ each (touch (g.M.RowMap.rows l.rows)) l.path-iterator.rest.items ≡ each (touch (g.M.RowMap.rows l.rows)) l.fn.changes.items
