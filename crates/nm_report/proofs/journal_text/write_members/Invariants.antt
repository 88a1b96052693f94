use Rattle.std.proofs.Common.{◌≡◌, ◌-◌, ◌++◌}
use Rattle.nm_report.specs.Journal.{member_text, up_to}
use Rattle.nm_report.proofs.journal_text.write_members.Given as goal

-- the devices below this number
abbrev pub invariant-loop-number : goal.invariant-loop-number
invariant-loop-number l = l.out.items ≡ l.fn.out.items ++ up_to (member_text l.devices.0) (l.number - 1)
