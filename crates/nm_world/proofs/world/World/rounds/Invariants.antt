use Rattle.std.proofs.Common.{◌≡◌, ◌≤◌}
use Rattle.nm_world.specs.Runs.{Does, KeepsTime}
use Rattle.nm_world.specs.World.{rounds}
use Rattle.nm_world.proofs.world.World.rounds.Given as goal

-- so many rounds are done
abbrev pub invariant-loop : goal.invariant-loop
invariant-loop g l =
    Does (λ w. rounds (g.C.Content.meaning l.fn.self.content) l.fn.self.setting l.counter w l.change) l.fn.self l.self (g.D.Disk.state l.fn.disk) (g.D.Disk.state l.disk)
    × KeepsTime 0 l.fn.self.state.devices l.self.state.devices × (l.counter ≤ l.turns)
    × (l.self.state ≡ rounds (g.C.Content.meaning l.fn.self.content) l.fn.self.setting l.counter l.fn.self.state l.change)
