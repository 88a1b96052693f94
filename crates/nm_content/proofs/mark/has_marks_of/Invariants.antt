use Rattle.std.proofs.Common.{◌≡◌, false, length}
use Rattle.std.specs.List.{list_all}
use Rattle.std.specs.Ordering.{is_lt}
use Rattle.nm_types.specs.Path.{path_cmp}
use Rattle.nm_content_place.specs.Walk.{below_after}
use Rattle.nm_content.specs.Mark.{has_marks_of}
use Rattle.nm_content.proofs.Walked.{is_marked}
use Rattle.nm_content.proofs.mark.has_marks_of.Given as goal

-- the rows that are left decide, as all do
abbrev pub invariant-walk : goal.invariant-walk
invariant-walk g l = record {
  left : list_all (is_marked (g.M.RowMap.rows l.other)) (below_after (g.M.RowMap.rows l.one) l.marks l.passed) ≡ has_marks_of (g.M.RowMap.rows l.other) (g.M.RowMap.rows l.one);
  behind : is_lt (path_cmp l.passed l.marks) ≡ false;
}

abbrev pub decreases-walk : goal.decreases-walk
decreases-walk g l = length (below_after (g.M.RowMap.rows l.one) l.marks l.passed)
