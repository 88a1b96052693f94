use Rattle.nm_schema_keys.specs.ConfigUse.{ConfigUse, IsConfigUse}
use Rattle.nm_schema_keys.specs.Keys.{keys_of}
use Rattle.nm_schema_faults.proofs.Listing.{AreListed}
use Rattle.nm_schema_faults.proofs.keys.keys_of_all.Given as goal

-- the keys of the lists so far
abbrev pub invariant-loop-list : goal.invariant-loop-list
invariant-loop-list l = (standing : ConfigUse) → IsConfigUse l.shape.rows l.shape.groupings standing → AreListed (keys_of l.shape.rows l.shape.groupings standing) l.list l.keys.items
