use Rattle.nm_validate_places.specs.Tables.{AreNone}
use Rattle.nm_validate_places.proofs.tables.no_nodes.Given as goal

abbrev pub invariant-loop-at : goal.invariant-loop-at
invariant-loop-at l = AreNone l._at l.groups.items
