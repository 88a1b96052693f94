use Rattle.std.proofs.Common.{◌≡◌, ◌++◌, map, take}
use Rattle.nm_schema_nodes.specs.Forks.{moved_branch}
use Rattle.nm_schema_nodes.proofs.forks.put_branches.Given as goal

abbrev pub invariant-loop-branch : goal.invariant-loop-branch
invariant-loop-branch l = l.cases.items ≡ l.initial.cases.items ++ map (moved_branch l.choices) (take l.branch-index l.others)
