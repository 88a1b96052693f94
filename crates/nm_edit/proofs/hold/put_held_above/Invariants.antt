use Rattle.std.proofs.Common.{◌≡◌, ◌++◌, drop}
use Rattle.nm_edit.specs.Edited.{held_from, held_above}
use Rattle.nm_edit.proofs.hold.put_held_above.Given as goal

abbrev pub invariant-loop-step : goal.invariant-loop-step
invariant-loop-step g l = record {
  items : l.step-items ≡ l.path;
  left : l.held.items ++ held_from l.schema (g.M.RowMap.rows l.config) l.above (drop l.step-index l.step-items) ≡ l.fn.held.items ++ held_above l.schema (g.M.RowMap.rows l.config) l.path;
}
