use Rattle.nm_validate_places.proofs.Tabled.{AreLeft}
use Rattle.nm_validate_places.proofs.tables.put_outwards.Given as goal

abbrev pub invariant-outwards : goal.invariant-outwards
invariant-outwards l = AreLeft l.schema l.by l.at l.left l.over l.most l.fn.from l.fn.groups.items l.groups.items

abbrev pub decreases-outwards : goal.decreases-outwards
decreases-outwards l = l.left
