use Rattle.nm_validate_places.proofs.Tabled.{AreUpTo}
use Rattle.nm_validate_places.proofs.tables.group_nodes.Given as goal

abbrev pub invariant-loop-at : goal.invariant-loop-at
invariant-loop-at l = AreUpTo l.schema l.by l.count l.at l.groups.items
