use Rattle.std.proofs.Common.{◌≡◌, ◌+◌, ◌-◌, ◌++◌, length}
use Rattle.nm_world.specs.Report.{each_from, differing, unsettling}
use Rattle.nm_world.proofs.report.report_by.Given as goal

-- the pairs so far and those that are left make all
abbrev pub invariant-loop-place : goal.invariant-loop-place
invariant-loop-place g l =
    (l.report.differ ++ each_from (differing l.devices l.manager.state.entries) (l.place + 1) (length l.manager.plans - l.place)
    ≡ each_from (differing l.devices l.manager.state.entries) 1 (length l.manager.plans))
    × (l.report.unsettled ++ each_from (unsettling l.devices l.manager.state) (l.place + 1) (length l.manager.plans - l.place)
    ≡ each_from (unsettling l.devices l.manager.state) 1 (length l.manager.plans))
