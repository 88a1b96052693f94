use Rattle.std.proofs.Common.{◌≡◌, drop}
use Rattle.nm_edit.specs.Edited.{all_without}
use Rattle.nm_edit.proofs.moves.take_all.Given as goal

abbrev pub invariant-loop-node : goal.invariant-loop-node
invariant-loop-node g l = record {
  left : all_without (g.M.RowMap.rows l.rows) (drop l.node-index l.nodes) ≡ all_without (g.M.RowMap.rows l.fn.rows) l.nodes;
  base : g.M.RowMap.base l.rows ≡ g.M.RowMap.base l.fn.rows;
}
