use Rattle.std.proofs.Common.{◌≡◌, ◌++◌, drop}
use Rattle.nm_incremental.specs.Differing.{differing}
use Rattle.nm_incremental.proofs.differing.differing.Given as goal

abbrev pub invariant-loop-node : goal.invariant-loop-node
invariant-loop-node g l =
    l.all.items ++ differing (g.B.RowMap.rows l.base) (g.M.RowMap.rows l.next) (drop l.node-index l.touched) ≡ differing (g.B.RowMap.rows l.base) (g.M.RowMap.rows l.next) l.touched
