use Rattle.std.proofs.Common.{◌≡◌, ◌≤◌}
use Rattle.nm_world.specs.Drain.{drained}
use Rattle.nm_world.specs.Runs.{Does, KeepsTime}
use Rattle.nm_world.proofs.world.World.drain.Given as goal

-- so many steps are done
abbrev pub invariant-loop : goal.invariant-loop
invariant-loop g l =
    Does (λ w. drained (g.C.Content.meaning l.fn.self.content) l.fn.self.setting l.counter w) l.fn.self l.world (g.D.Disk.state l.fn.disk) (g.D.Disk.state l.disk)
    × KeepsTime 0 l.fn.self.state.devices l.world.state.devices × (l.counter ≤ l.limit)
    × (l.world.state ≡ drained (g.C.Content.meaning l.fn.self.content) l.fn.self.setting l.counter l.fn.self.state)
