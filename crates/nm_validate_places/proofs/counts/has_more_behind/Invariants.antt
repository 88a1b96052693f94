use Rattle.std.proofs.Common.{◌≡◌, nat_lt, length}
use Rattle.std.specs.Prelude.{option_copied}
use Rattle.std.specs.FinMap.{keys}
use Rattle.nm_validate_places.specs.Counts.{count_behind}
use Rattle.nm_validate_places.proofs.Counting.{IsBehind, from_first, to_come}
use Rattle.nm_validate_places.proofs.counts.has_more_behind.Given as goal

abbrev pub invariant-entries : goal.invariant-entries
invariant-entries g l =
    (nat_lt l.left (to_come (g.M.RowMap.rows l.config) l.path (option_copied l.at)) ≡ nat_lt l.most (count_behind (g.M.RowMap.rows l.config) l.path)) × IsBehind l.path (option_copied l.at)

abbrev pub decreases-entries : goal.decreases-entries
decreases-entries g l = length (from_first (keys (g.M.RowMap.rows l.config)) (option_copied l.at))
