use Rattle.std.proofs.Common.{◌≡◌, ◌++◌, map, take}
use Rattle.nm_schema_nodes.specs.Forks.{inner_fork}
use Rattle.nm_schema_nodes.proofs.forks.put_inner_forks.Given as goal

abbrev pub invariant-loop-fork : goal.invariant-loop-fork
invariant-loop-fork l = l.choices.items ≡ l.initial.choices.items ++ map (inner_fork l.outer) (take l.fork-index l.others)
