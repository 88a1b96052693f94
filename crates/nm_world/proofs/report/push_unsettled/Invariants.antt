use Rattle.std.proofs.Common.{◌≡◌, ◌+◌, ◌-◌, ◌++◌, length}
use Rattle.nm_world.specs.Report.{each_from, unsettled_at}
use Rattle.nm_world.proofs.report.push_unsettled.Given as goal

-- the pairs so far and those that are left make all
abbrev pub invariant-loop-place : goal.invariant-loop-place
invariant-loop-place g l = l.pairs ++ each_from (unsettled_at l.devices l.manager.state l.change) (l.place + 1) (length l.devices - l.place)
    ≡ l.initial.pairs ++ each_from (unsettled_at l.devices l.manager.state l.change) 1 (length l.devices)
