use Rattle.std.proofs.Common.{◌≡◌, ◌||◌, drop}
use Rattle.nm_undo.specs.Inverse.{lacks_from, lacks_above}
use Rattle.nm_undo.proofs.said.lacks_above.Given as goal

abbrev pub invariant-loop-step : goal.invariant-loop-step
invariant-loop-step g l = record {
  items : l.step-items ≡ l.path;
  left : (l.lacks || lacks_from l.schema (g.M.RowMap.rows l.rows) l.above (drop l.step-index l.step-items)) ≡ lacks_above l.schema (g.M.RowMap.rows l.rows) l.path;
}
