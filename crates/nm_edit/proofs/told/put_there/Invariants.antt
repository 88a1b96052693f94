use Rattle.std.proofs.Common.{◌≡◌, ◌++◌, drop, map as each}
use Rattle.nm_edit.specs.Said.{there}
use Rattle.nm_edit.proofs.told.put_there.Given as goal

abbrev pub invariant-loop-path : goal.invariant-loop-path
invariant-loop-path l = l.pairs.items ++ each there (drop l.path-index l.rows) ≡ l.fn.pairs.items ++ each there l.rows
