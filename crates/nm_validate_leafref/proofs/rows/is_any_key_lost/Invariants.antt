use Rattle.std.proofs.Common.{◌≡◌, length}
use Rattle.nm_validate_rules.specs.Values.{key_claims}
use Rattle.nm_validate_leafref.specs.Known.{Knows}
use Rattle.nm_validate_leafref.specs.Lost.{any_lost}
use Rattle.nm_validate_leafref.proofs.rows.is_any_key_lost.Given as goal

abbrev pub invariant-leafs : goal.invariant-leafs
invariant-leafs g l =
    Knows l.schema (g.M.RowMap.rows l.config) l.kept
    × (any_lost l.schema (g.M.RowMap.rows l.config) (key_claims l.schema l.entry l.leafs_left l.values_left)
    ≡ any_lost l.schema (g.M.RowMap.rows l.config) (key_claims l.schema l.entry l.leafs l.values))

abbrev pub decreases-leafs : goal.decreases-leafs
decreases-leafs g l = length l.leafs_left
