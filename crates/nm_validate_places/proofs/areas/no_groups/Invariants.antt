use Rattle.nm_validate_places.specs.Groups.{AreEmpty}
use Rattle.nm_validate_places.proofs.areas.no_groups.Given as goal

abbrev pub invariant-loop-at : goal.invariant-loop-at
invariant-loop-at l = AreEmpty l._at l.groups.items
