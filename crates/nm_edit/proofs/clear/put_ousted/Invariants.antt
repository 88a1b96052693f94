use Rattle.std.proofs.Common.{◌≡◌, ◌++◌, drop}
use Rattle.nm_edit.specs.Edited.{ousted}
use Rattle.nm_edit.proofs.clear.put_ousted.Given as goal

abbrev pub invariant-loop-path : goal.invariant-loop-path
invariant-loop-path l = l.nodes.items ++ ousted l.schema (drop l.path-index l.rows) ≡ l.fn.nodes.items ++ ousted l.schema l.rows
