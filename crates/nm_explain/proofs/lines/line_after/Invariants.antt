use Rattle.std.proofs.Common.{◌≡◌, ◌≤◌, ◌+◌, length}
use Rattle.nm_explain.specs.Lines.{lines_from}
use Rattle.nm_explain.proofs.lines.line_after.Given as goal

abbrev pub invariant-loop-rest : goal.invariant-loop-rest
invariant-loop-rest l = (lines_from l.line l.rest ≡ lines_from 1 l.fn.front) × (l.line + length l.rest ≤ length l.fn.front + 1)

abbrev pub decreases-loop-rest : goal.decreases-loop-rest
decreases-loop-rest l = length l.rest
