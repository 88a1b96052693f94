use Rattle.std.proofs.Common.{◌≡◌, ◌+◌, ◌-◌, length}
use Rattle.nm_world.specs.Drain.{first_from, leave_of}
use Rattle.nm_world.proofs.search.leaves.Given as goal

-- what is found of all of them is found of those that are left
abbrev pub invariant-loop-place : goal.invariant-loop-place
invariant-loop-place g l = first_from (leave_of l.devices l.operators) (l.place + 1) (length l.operators - l.place)
    ≡ first_from (leave_of l.devices l.operators) 1 (length l.operators)
