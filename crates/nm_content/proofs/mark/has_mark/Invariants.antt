use Rattle.std.proofs.Common.{◌≡◌, false, length}
use Rattle.std.specs.List.{list_any}
use Rattle.std.specs.Ordering.{is_lt}
use Rattle.nm_types.specs.Path.{path_cmp}
use Rattle.nm_content_place.specs.Walk.{below_after}
use Rattle.nm_content.specs.Mark.{has_mark, is_mark_of}
use Rattle.nm_content.proofs.mark.has_mark.Given as goal

-- the rows that are left decide, as all do
abbrev pub invariant-walk : goal.invariant-walk
invariant-walk g l = record {
  left : list_any (is_mark_of l.number) (below_after (g.M.RowMap.rows l.rows) l.marks l.passed) ≡ has_mark (g.M.RowMap.rows l.rows) l.number;
  behind : is_lt (path_cmp l.passed l.marks) ≡ false;
}

abbrev pub decreases-walk : goal.decreases-walk
decreases-walk g l = length (below_after (g.M.RowMap.rows l.rows) l.marks l.passed)
