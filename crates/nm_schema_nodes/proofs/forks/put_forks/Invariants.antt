use Rattle.std.proofs.Common.{◌≡◌, ◌++◌, map, take}
use Rattle.nm_schema_nodes.specs.Forks.{moved_fork}
use Rattle.nm_schema_nodes.proofs.forks.put_forks.Given as goal

abbrev pub invariant-loop-fork : goal.invariant-loop-fork
invariant-loop-fork l = l.choices.items ≡ l.initial.choices.items ++ map (moved_fork l.cases) (take l.fork-index l.others)
