use Rattle.std.proofs.Common.{◌≡◌, ◌++◌, length, map as each}
use Rattle.std.specs.Map.Iter.{deref_pair}
use Rattle.nm_overlay.specs.Places.{present}
use Rattle.nm_overlay.proofs.rows.list_all.Given as goal

abbrev pub invariant-pairs : goal.invariant-pairs
invariant-pairs l = each deref_pair l.all.items ++ present l.rest ≡ each deref_pair l.fn.all.items ++ present l.pairs

abbrev pub decreases-pairs : goal.decreases-pairs
decreases-pairs l = length l.rest
