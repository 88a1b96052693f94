use Rattle.std.proofs.Common.{◌≡◌, ◌+◌, ◌≤◌, length}
use Rattle.nm_overlay.specs.Places.{added_in}
use Rattle.nm_overlay.proofs.rows.added_of.Given as goal

abbrev pub invariant-pairs : goal.invariant-pairs
invariant-pairs g l = (l.added + added_in (g.M.RowMap.rows l.base) l.rest ≡ added_in (g.M.RowMap.rows l.base) l.pairs) × (l.added + length l.rest ≤ length l.pairs)

abbrev pub decreases-pairs : goal.decreases-pairs
decreases-pairs g l = length l.rest
