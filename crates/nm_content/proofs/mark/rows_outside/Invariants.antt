use Rattle.std.proofs.Common.{◌≡◌, ◌+◌, ◌-◌, ◌^◌, ◌≤◌, length}
use Rattle.std.specs.Prelude.{option_copied}
use Rattle.std.specs.List.{count_by}
use Rattle.std.specs.FinMap.{entries}
use Rattle.nm_proto.specs.Content.{counted_rows}
use Rattle.nm_overlay.proofs.Following.{come}
use Rattle.nm_content.specs.Mark.{is_outside, outside_rows}
use Rattle.nm_content.proofs.mark.rows_outside.Given as goal

-- the count so far and what is left make the whole count
abbrev pub invariant-walk : goal.invariant-walk
invariant-walk g l = record {
  goes_on : counted_rows (l.count + count_by is_outside (come (option_copied l.passed) (entries (g.M.RowMap.rows l.rows)))) ≡ counted_rows (outside_rows (g.M.RowMap.rows l.rows));
  small : l.count ≤ 2 ^ 32 - 1;
}

abbrev pub decreases-walk : goal.decreases-walk
decreases-walk g l = length (come (option_copied l.passed) (entries (g.M.RowMap.rows l.rows)))
