use Rattle.std.proofs.Common.{◌≡◌, ◌++◌, ◌+◌, drop}
use Rattle.nm_report.specs.Text.{running_lines, running_of}
use Rattle.nm_report.proofs.text.write_devices_running.Given as goal

-- the lines so far and those that are left make all
abbrev pub invariant-loop-place : goal.invariant-loop-place
invariant-loop-place g l = l.out.items ++ running_lines (g.C.Show.shown l.content) (l.place + 1) (running_of (drop l.place l.devices)) ≡ l.initial.out.items ++ running_lines (g.C.Show.shown l.initial.content) 1 (running_of l.initial.devices)
