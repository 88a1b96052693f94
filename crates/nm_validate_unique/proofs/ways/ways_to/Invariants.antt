use Rattle.std.proofs.Common.{drop}
use Rattle.nm_validate_unique.proofs.Down.{AreFound}
use Rattle.nm_validate_unique.proofs.ways.ways_to.Given as goal

abbrev pub invariant-loop-leaf : goal.invariant-loop-leaf
invariant-loop-leaf l = AreFound l.schema (drop l.leaf-index l.leafs) l.leafs l.ways.items
