use Rattle.std.proofs.Common.{◌≤◌, ◌*◌, ◌^◌, length, take}
use Rattle.nm_world.specs.Runs.{Does, KeepsTime, Reaches}
use Rattle.nm_world.specs.World.{run}
use Rattle.nm_world.proofs.world.World.run.Given as goal

-- so many events are done, each of which took less than 2^32 seconds
abbrev pub invariant-loop-event : goal.invariant-loop-event
invariant-loop-event g l =
    Does (λ w. run (g.C.Content.meaning l.fn.self.content) l.fn.self.setting w (take l.event-index l.events)) l.fn.self l.world (g.D.Disk.state l.fn.disk) (g.D.Disk.state l.disk)
    × KeepsTime (2 ^ 32 * l.event-index) l.fn.self.state.devices l.world.state.devices
    × (l.event-index ≤ length l.events)
    × Reaches (g.C.Content.meaning l.fn.self.content) l.fn.self.setting l.fn.self.state (take l.event-index l.events) l.world.state
