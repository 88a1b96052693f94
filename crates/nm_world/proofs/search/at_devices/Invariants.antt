use Rattle.std.proofs.Common.{◌≡◌, ◌+◌, ◌-◌, length}
use Rattle.nm_world.specs.Drain.{first_from, at_pair}
use Rattle.nm_world.proofs.search.at_devices.Given as goal

-- what is found of all of them is found of those that are left
abbrev pub invariant-loop-place : goal.invariant-loop-place
invariant-loop-place g l = first_from (at_pair l.devices l.manager.state l.rule l.change) (l.place + 1) (length l.devices - l.place)
    ≡ first_from (at_pair l.devices l.manager.state l.rule l.change) 1 (length l.devices)
