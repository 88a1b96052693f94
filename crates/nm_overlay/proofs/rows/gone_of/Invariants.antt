use Rattle.std.proofs.Common.{◌≡◌, ◌+◌, ◌≤◌, length}
use Rattle.nm_overlay.specs.Places.{gone_in}
use Rattle.nm_overlay.proofs.rows.gone_of.Given as goal

abbrev pub invariant-pairs : goal.invariant-pairs
invariant-pairs l = (l.gone + gone_in l.rest ≡ gone_in l.pairs) × (l.gone + length l.rest ≤ length l.pairs)

abbrev pub decreases-pairs : goal.decreases-pairs
decreases-pairs l = length l.rest
