use Rattle.std.proofs.Common.{◌≡◌, ◌++◌, length}
use Rattle.std.specs.Prelude.{filter, option_copied}
use Rattle.std.specs.FinMap.{keys}
use Rattle.nm_config.specs.Under.{is_under}
use Rattle.nm_validate_places.specs.Counts.{behind}
use Rattle.nm_validate_places.proofs.Counting.{IsBehind, from_first}
use Rattle.nm_incremental.proofs.differing.put_behind.Given as goal

abbrev pub invariant-rows : goal.invariant-rows
invariant-rows g l =
    (l.all.items ++ filter (is_under l.node) (from_first (keys (g.M.RowMap.rows l.config)) (option_copied l.at)) ≡ l.fn.all.items ++ filter (is_under l.node) (behind l.node (keys (g.M.RowMap.rows l.config))))
    × IsBehind l.node (option_copied l.at)

abbrev pub decreases-rows : goal.decreases-rows
decreases-rows g l = length (from_first (keys (g.M.RowMap.rows l.config)) (option_copied l.at))
