use Rattle.std.proofs.Common.{◌≡◌, ◌++◌, drop}
use Rattle.std.specs.List.{flat_map}
use Rattle.nm_edit.specs.Said.{gone_below}
use Rattle.nm_undo.proofs.since.put_below.Given as goal

abbrev pub invariant-loop-node : goal.invariant-loop-node
invariant-loop-node g l =
    l.paths.items ++ flat_map (gone_below (g.M.RowMap.rows l.rows)) (drop l.node-index l.nodes) ≡ l.fn.paths.items ++ flat_map (gone_below (g.M.RowMap.rows l.rows)) l.nodes
