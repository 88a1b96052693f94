use Rattle.std.proofs.Common.{◌≡◌, ◌+◌, ◌-◌, length}
use Rattle.nm_world.specs.Drain.{first_from, ready_at}
use Rattle.nm_world.proofs.search.first_ready.Given as goal

-- what is found of all of them is found of those that are left
abbrev pub invariant-loop-place : goal.invariant-loop-place
invariant-loop-place l = first_from (ready_at l.manager.state.entries) (l.place + 1) (length l.manager.plans - l.place)
    ≡ first_from (ready_at l.manager.state.entries) 1 (length l.manager.plans)
