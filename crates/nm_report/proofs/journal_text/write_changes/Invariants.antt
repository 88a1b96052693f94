use Rattle.std.proofs.Common.{◌≡◌, ◌-◌, ◌++◌}
use Rattle.nm_report.specs.Journal.{line_if_started, up_to}
use Rattle.nm_report.proofs.journal_text.write_changes.Given as goal

-- the change sets below this number
abbrev pub invariant-loop-number : goal.invariant-loop-number
invariant-loop-number l = l.out.items ≡ l.fn.out.items ++ up_to (line_if_started l.entries) (l.number - 1)
