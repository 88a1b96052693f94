use Rattle.std.proofs.Common.{◌≡◌, ◌≤◌, length}
use Rattle.nm_explain.specs.Lines.{last_from}
use Rattle.nm_explain.proofs.lines.last_line.Given as goal

abbrev pub invariant-loop-rest : goal.invariant-loop-rest
invariant-loop-rest l = (last_from l.line l.rest ≡ last_from l.fn.front l.fn.front) × (length l.rest ≤ length l.fn.front) × (length l.line ≤ length l.fn.front)

abbrev pub decreases-loop-rest : goal.decreases-loop-rest
decreases-loop-rest l = length l.rest
