use Rattle.std.proofs.Common.{◌≡◌, ◌++◌, drop, map as each}
use Rattle.nm_undo.specs.Since.{path_alone}
use Rattle.nm_undo.proofs.since.put_paths.Given as goal

abbrev pub invariant-loop-path : goal.invariant-loop-path
invariant-loop-path l = l.paths.items ++ each path_alone (drop l.path-index l.rows) ≡ l.fn.paths.items ++ each path_alone l.rows
