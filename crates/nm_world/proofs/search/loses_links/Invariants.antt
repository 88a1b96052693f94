use Rattle.std.proofs.Common.{◌≡◌, ◌+◌, ◌-◌, length}
use Rattle.nm_world.specs.declared.drain.Rule.TheVariants as rules
use Rattle.nm_world.specs.Drain.{first_from, at_devices}
use Rattle.nm_world.proofs.search.loses_links.Given as goal

-- what is found of all of them is found of those that are left
abbrev pub invariant-loop-place : goal.invariant-loop-place
invariant-loop-place g l = first_from (at_devices l.devices l.manager.state rules.Lose) (l.place + 1) (length l.manager.plans - l.place)
    ≡ first_from (at_devices l.devices l.manager.state rules.Lose) 1 (length l.manager.plans)
