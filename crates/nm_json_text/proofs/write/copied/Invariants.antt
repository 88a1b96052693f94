use Rattle.std.proofs.Common.{◌≡◌, ◌++◌, drop}
use Rattle.std.proofs.Common.{map as each}
use Rattle.std.specs.Map.Iter.{deref_pair}
use Rattle.nm_json_text.proofs.write.copied.Given as goal

abbrev pub invariant-loop-path : goal.invariant-loop-path
invariant-loop-path l = l.copies.items ++ each deref_pair (drop l.path-index l.rows) ≡ each deref_pair l.rows
