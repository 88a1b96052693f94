use Rattle.std.proofs.Common.{◌≡◌, ◌+◌, ◌≤◌, length}
use Rattle.nm_overlay.specs.Places.{front, is_before}
use Rattle.nm_overlay.proofs.rows.count_before.Given as goal

abbrev pub invariant-pairs : goal.invariant-pairs
invariant-pairs l = (l.count + front (is_before l.path) l.rest ≡ front (is_before l.path) l.pairs) × (l.count + length l.rest ≤ length l.pairs)

abbrev pub decreases-pairs : goal.decreases-pairs
decreases-pairs l = length l.rest
