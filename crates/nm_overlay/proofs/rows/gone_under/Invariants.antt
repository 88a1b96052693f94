use Rattle.std.proofs.Common.{◌≡◌, ◌++◌, Some, false, length, map as each}
use Rattle.std.specs.Prelude.{filter}
use Rattle.std.specs.Ordering.{is_lt}
use Rattle.std.specs.FinMap.{entries, keys}
use Rattle.nm_types.specs.Path.{path_cmp}
use Rattle.nm_config.specs.Under.{is_under}
use Rattle.nm_overlay.specs.Places.{gone_at}
use Rattle.nm_overlay.proofs.Following.{come}
use Rattle.nm_overlay.proofs.rows.gone_under.Given as goal

abbrev pub invariant-rows : goal.invariant-rows
invariant-rows g l = record {
  told : l.gone.items ++ each gone_at (filter (is_under l.node) (come (Some l.passed) (entries (g.M.RowMap.rows l.base)))) ≡ each gone_at (filter (is_under l.node) (keys (g.M.RowMap.rows l.base)));
  behind : is_lt (path_cmp l.passed l.node) ≡ false;
}

abbrev pub decreases-rows : goal.decreases-rows
decreases-rows g l = length (come (Some l.passed) (entries (g.M.RowMap.rows l.base)))
