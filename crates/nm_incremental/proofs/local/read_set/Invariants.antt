use Rattle.std.proofs.Common.{◌≡◌, ◌++◌, drop, map}
use Rattle.nm_incremental.specs.Read.{present, read_of}
use Rattle.nm_incremental.proofs.local.read_set.Given as goal

abbrev pub invariant-loop-row : goal.invariant-loop-row
invariant-loop-row l = l.all.items ++ map present (read_of l.schema l.rule (drop l.row-index l.differing)) ≡ map present (read_of l.schema l.rule l.differing)
