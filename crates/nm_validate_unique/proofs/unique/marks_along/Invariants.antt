use Rattle.std.proofs.Common.{◌≡◌, ◌++◌, map, drop}
use Rattle.nm_validate_places.specs.Listed.{AreRows}
use Rattle.nm_validate_unique.specs.Marks.{marks_in}
use Rattle.nm_validate_unique.proofs.unique.marks_along.Given as goal

abbrev pub invariant-loop-entry : goal.invariant-loop-entry
invariant-loop-entry g l =
    AreRows (g.M.RowMap.rows l.config) l.rest
    × (l.marks.items ++ marks_in l.schema (g.M.RowMap.rows l.config) (map (λ way. way.leaf) l.ways) (map (λ entry. entry.now) (drop l.entry-index l.entries))
    ≡ marks_in l.schema (g.M.RowMap.rows l.config) (map (λ way. way.leaf) l.ways) (map (λ entry. entry.now) l.entries))
