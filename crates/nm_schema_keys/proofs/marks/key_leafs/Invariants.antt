use Rattle.std.proofs.Common.{◌≡◌, length}
use Rattle.nm_schema_keys.specs.ConfigUse.{ConfigUse, IsConfigUse}
use Rattle.nm_schema_keys.proofs.Marking.{AreMarked}
use Rattle.nm_schema_keys.proofs.marks.key_leafs.Given as goal

-- the lists so far have marked their keys
abbrev pub invariant-loop-list : goal.invariant-loop-list
invariant-loop-list l = record {
  size : length l.marks.items ≡ length l.names;
  marked : (standing : ConfigUse) → IsConfigUse l.shape.rows l.shape.groupings standing → AreMarked l.shape.rows l.shape.groupings standing l.list l.marks.items;
}
