use Rattle.std.proofs.Common.{◌≤◌, ◌*◌, ◌^◌, length, take}
use Rattle.nm_world.specs.Runs.{Does, KeepsTime}
use Rattle.nm_permitted.specs.Permitted.{PassesTo, judged_run}
use Rattle.nm_permitted.proofs.run.run_permitted.Given as goal

-- so many events are judged, each of which took less than 2^32 seconds
abbrev pub invariant-loop-event : goal.invariant-loop-event
invariant-loop-event g l =
    Does (λ w. judged_run (g.C.Content.meaning l.fn.world.content) l.fn.world.setting (g.J.Judge.judges l.fn.judge l.fn.world.content l.fn.world.setting) w (take l.event-index l.events)) l.fn.world l.world
    (g.D.Disk.state l.fn.disk) (g.D.Disk.state l.disk)
    × KeepsTime (2 ^ 32 * l.event-index) l.fn.world.state.devices l.world.state.devices
    × (l.event-index ≤ length l.events)
    × PassesTo (g.C.Content.meaning l.fn.world.content) l.fn.world.setting (g.J.Judge.judges l.fn.judge l.fn.world.content l.fn.world.setting) l.fn.world.state l.fn.denials (take l.event-index l.events)
    l.world.state l.denials
