use Rattle.std.proofs.Common.{◌≡◌, false, length}
use Rattle.std.specs.List.{list_all}
use Rattle.std.specs.Ordering.{is_lt}
use Rattle.nm_types.specs.Path.{path_cmp}
use Rattle.nm_content_place.specs.Place.{is_shared}
use Rattle.nm_content_place.specs.Walk.{below_after}
use Rattle.nm_content_place.proofs.place.has_rest_of.Given as goal

-- the rows that are left decide, as all do
abbrev pub invariant-walk : goal.invariant-walk
invariant-walk g l = record {
  left : list_all (is_shared (g.M.RowMap.rows l.one) (g.M.RowMap.rows l.other) l.path) (below_after (g.M.RowMap.rows l.one) l.path l.passed)
      ≡ list_all (is_shared (g.M.RowMap.rows l.one) (g.M.RowMap.rows l.other) l.path) (below_after (g.M.RowMap.rows l.one) l.path l.path);
  behind : is_lt (path_cmp l.passed l.path) ≡ false;
}

abbrev pub decreases-walk : goal.decreases-walk
decreases-walk g l = length (below_after (g.M.RowMap.rows l.one) l.path l.passed)
