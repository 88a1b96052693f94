use Rattle.std.proofs.Common.{◌≡◌, ◌++◌, ◌+◌, drop}
use Rattle.nm_report.specs.Check.{device_lines}
use Rattle.nm_report.proofs.check.write_rows.Given as goal

-- the lines so far and those that are left make all
abbrev pub invariant-loop-place : goal.invariant-loop-place
invariant-loop-place l = l.out.items ++ device_lines (l.place + 1) (drop l.place l.rows) ≡ l.initial.out.items ++ device_lines 1 l.initial.rows
