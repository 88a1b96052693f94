use Rattle.std.proofs.Common.{◌≡◌, ◌++◌, ◌+◌, drop}
use Rattle.nm_report.specs.Notices.{notice_lines}
use Rattle.nm_report.proofs.notice_text.write_notice_lines.Given as goal

-- the lines so far and those that are left make all
abbrev pub invariant-loop-place : goal.invariant-loop-place
invariant-loop-place g l = l.out.items ++ notice_lines (l.place + 1) (drop l.place l.devices) ≡ l.initial.out.items ++ notice_lines 1 l.initial.devices
