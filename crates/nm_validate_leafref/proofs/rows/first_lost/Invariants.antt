use Rattle.std.proofs.Common.{◌≡◌, drop}
use Rattle.nm_validate_leafref.specs.Known.{Knows}
use Rattle.nm_validate_leafref.specs.Lost.{first_lost}
use Rattle.nm_validate_leafref.proofs.rows.first_lost.Given as goal

abbrev pub invariant-loop-row : goal.invariant-loop-row
invariant-loop-row g l =
    Knows l.schema (g.M.RowMap.rows l.config) l.kept
    × (first_lost l.schema (g.M.RowMap.rows l.config) (drop l.row-index l.rows) ≡ first_lost l.schema (g.M.RowMap.rows l.config) l.rows)
