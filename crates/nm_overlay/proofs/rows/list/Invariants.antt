use Rattle.std.proofs.Common.{◌≡◌, ◌++◌, map as each}
use Rattle.std.specs.FinMap as map
use Rattle.std.specs.Map.Iter.{deref_pair}
use Rattle.nm_overlay.specs.Differences.{with_changes}
use Rattle.nm_overlay.proofs.Merge.{merged}
use Rattle.nm_overlay.proofs.rows.list.Given as goal

abbrev pub invariant-loop-path : goal.invariant-loop-path
invariant-loop-path l = each deref_pair l.all.items ++ merged l.path-iterator l.rest ≡ map.entries (with_changes l.base l.pairs)
