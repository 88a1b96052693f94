use Rattle.std.proofs.Common.{◌≡◌, drop}
use Rattle.std.specs.FinMap as map
use Rattle.nm_config.specs.Under.{without_rows}
use Rattle.nm_config.proofs.config.remove_rows.Given as goal

abbrev pub invariant-loop-path : goal.invariant-loop-path
invariant-loop-path l = without_rows (map.from_entries l.tree.entries) (drop l.path-index l.rows) ≡ without_rows (map.from_entries l.fn.tree.entries) l.rows
