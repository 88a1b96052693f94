use Rattle.std.proofs.Common.{◌≡◌, ◌++◌, drop}
use Rattle.std.specs.List.{flat_map}
use Rattle.nm_undo.specs.Since.{own_alone}
use Rattle.nm_undo.proofs.since.put_all_own.Given as goal

abbrev pub invariant-loop-row : goal.invariant-loop-row
invariant-loop-row l = l.paths.items ++ flat_map (own_alone l.schema) (drop l.row-index l.rows) ≡ l.fn.paths.items ++ flat_map (own_alone l.schema) l.rows
