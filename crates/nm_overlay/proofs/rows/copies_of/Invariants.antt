use Rattle.std.proofs.Common.{◌≡◌, ◌++◌, drop, map as each}
use Rattle.std.specs.Map.Iter.{deref_pair}
use Rattle.nm_overlay.proofs.rows.copies_of.Given as goal

abbrev pub invariant-loop-path : goal.invariant-loop-path
invariant-loop-path l = l.copies.items ++ each deref_pair (drop l.path-index l.rows) ≡ each deref_pair l.rows
