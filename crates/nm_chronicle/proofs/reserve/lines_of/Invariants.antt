use Rattle.std.proofs.Common.{◌≡◌, map, take}
use Rattle.nm_chronicle.specs.Line.{fresh_line}
use Rattle.nm_chronicle.specs.Board.{devices_of}
use Rattle.nm_chronicle.proofs.reserve.lines_of.Given as goal

-- the lines so far
abbrev pub invariant-loop-plan : goal.invariant-loop-plan
invariant-loop-plan l = l.lines.items ≡ map (λ plan. fresh_line l.devices (devices_of plan)) (take l.plan-index l.changes)
