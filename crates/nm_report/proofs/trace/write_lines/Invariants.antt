use Rattle.std.proofs.Common.{◌≡◌, ◌++◌, ◌+◌, drop}
use Rattle.nm_report.specs.Trace.{trace_lines}
use Rattle.nm_report.proofs.trace.write_lines.Given as goal

-- the lines so far and those that are left make all
abbrev pub invariant-loop-place : goal.invariant-loop-place
invariant-loop-place l = l.out.items ++ trace_lines (l.place + 1) (drop l.place l.trail) ≡ l.initial.out.items ++ trace_lines 1 l.initial.trail
