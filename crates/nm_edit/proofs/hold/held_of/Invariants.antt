use Rattle.std.proofs.Common.{◌≡◌, ◌++◌, drop}
use Rattle.nm_edit.specs.Edited.{held}
use Rattle.nm_edit.proofs.hold.held_of.Given as goal

abbrev pub invariant-loop-path : goal.invariant-loop-path
invariant-loop-path g l = l.held.items ++ held l.schema (g.M.RowMap.rows l.config) (drop l.path-index l.rows) ≡ held l.schema (g.M.RowMap.rows l.config) l.rows
