use Rattle.std.proofs.Common.{◌≡◌, ◌++◌}
use Rattle.std.specs.Prelude.{filter}
use Rattle.std.specs.List.{flat_map}
use Rattle.std.specs.FinMap.{entries}
use Rattle.nm_edit.specs.Said.{is_change, change_at}
use Rattle.nm_edit.proofs.sayings.Sayings.changes.Given as goal

abbrev pub invariant-loop-path : goal.invariant-loop-path
invariant-loop-path g l = l.changes.items ++ flat_map (change_at (g.M.RowMap.rows l.rows)) l.path-iterator ≡ filter (is_change (g.M.RowMap.rows l.rows)) (entries l.self)
