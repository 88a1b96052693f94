use Rattle.std.proofs.Common.{◌≡◌, ◌+◌, ◌-◌, length}
use Rattle.nm_world.specs.Drain.{first_from, leave_on}
use Rattle.nm_world.proofs.search.leave_of.Given as goal

-- what is found of all of them is found of those that are left
abbrev pub invariant-loop-place : goal.invariant-loop-place
invariant-loop-place g l = first_from (leave_on l.devices l.operators l.number) (l.place + 1) (length l.devices - l.place)
    ≡ first_from (leave_on l.devices l.operators l.number) 1 (length l.devices)
