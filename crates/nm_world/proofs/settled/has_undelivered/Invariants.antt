use Rattle.std.proofs.Common.{◌≡◌, ◌+◌, ◌-◌, length}
use Rattle.nm_manager.specs.Manager.{wire_in}
use Rattle.nm_world.specs.Report.{any_from, is_undelivered, has_undelivered}
use Rattle.nm_world.proofs.settled.has_undelivered.Given as goal

-- one of all of them has such a request where one of those that are left has
abbrev pub invariant-loop-place : goal.invariant-loop-place
invariant-loop-place g l = any_from (is_undelivered l.device (wire_in l.manager.state l.change l.number)) (l.place + 1)
    (length (wire_in l.manager.state l.change l.number).links - l.place)
    ≡ has_undelivered l.device (wire_in l.manager.state l.change l.number)
