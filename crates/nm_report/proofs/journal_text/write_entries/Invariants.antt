use Rattle.std.proofs.Common.{◌≡◌, ◌++◌, drop}
use Rattle.std.specs.List.{flat_map}
use Rattle.nm_report.specs.Journal.{entry_line}
use Rattle.nm_report.proofs.journal_text.write_entries.Given as goal

-- the lines so far and those that are left make all
abbrev pub invariant-loop-entry : goal.invariant-loop-entry
invariant-loop-entry l = l.out.items ++ flat_map entry_line (drop l.entry-index l.entries) ≡ l.initial.out.items ++ flat_map entry_line l.initial.entries
