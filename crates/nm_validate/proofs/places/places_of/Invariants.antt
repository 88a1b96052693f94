use Rattle.std.proofs.Common.{◌≡◌, ◌++◌, [], map, drop}
use Rattle.nm_validate.specs.Places.{places_after}
use Rattle.nm_validate.proofs.places.places_of.Given as goal

abbrev pub invariant-loop-row : goal.invariant-loop-row
invariant-loop-row l = l.places.items ++ places_after l.before (map (λ row. row.path.now) (drop l.row-index l.rows)) ≡ places_after [] (map (λ row. row.path.now) l.rows)
