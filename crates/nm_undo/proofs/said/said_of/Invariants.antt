use Rattle.std.proofs.Common.{◌≡◌, ◌++◌, drop}
use Rattle.nm_undo.specs.Inverse.{said}
use Rattle.nm_undo.proofs.said.said_of.Given as goal

abbrev pub invariant-loop-change : goal.invariant-loop-change
invariant-loop-change g l = l.said.items ++ said l.schema (g.M.RowMap.rows l.old) (drop l.change-index l.changes) ≡ said l.schema (g.M.RowMap.rows l.old) l.changes
