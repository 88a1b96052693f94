use Rattle.std.proofs.Common.{◌≡◌}
use Rattle.nm_content.proofs.Taking.{TakenBelow}
use Rattle.nm_content.proofs.mark.take_marks.Given as goal

abbrev pub invariant-loop-number : goal.invariant-loop-number
invariant-loop-number g l = record {
  taken : TakenBelow l.marks l.number (g.M.RowMap.rows l.fn.rows) (g.M.RowMap.rows l.rows);
  base : g.M.RowMap.base l.rows ≡ g.M.RowMap.base l.fn.rows;
}
