use Rattle.std.proofs.Common.{◌≡◌, ◌++◌}
use Rattle.nm_validate.specs.Places.{shared_places, places_from}
use Rattle.nm_validate.proofs.places.put_places.Given as goal

abbrev pub invariant-loop-count : goal.invariant-loop-count
invariant-loop-count l = l.places.items ++ places_from l.count l.path ≡ l.fn.places.items ++ places_from (shared_places l.before l.path) l.path
