use Rattle.std.proofs.Common.{◌≡◌, take}
use Rattle.nm_explore_groups.proofs.group.copy_way.Given as goal

-- the faults so far
abbrev pub invariant-loop-one : goal.invariant-loop-one
invariant-loop-one l = l.copy ≡ take l.one-index l.way
