use Rattle.std.proofs.Common.{◌≡◌, ◌++◌, drop}
use Rattle.std.specs.List.{flat_map}
use Rattle.nm_edit.specs.Said.{gone_below}
use Rattle.nm_edit.proofs.told.put_gone.Given as goal

abbrev pub invariant-loop-node : goal.invariant-loop-node
invariant-loop-node g l =
    l.pairs.items ++ flat_map (gone_below (g.M.RowMap.rows l.rows)) (drop l.node-index l.nodes) ≡ l.fn.pairs.items ++ flat_map (gone_below (g.M.RowMap.rows l.rows)) l.nodes
