use Rattle.std.proofs.Common.{◌≡◌, ◌++◌, drop}
use Rattle.nm_report.specs.Check.{module_lines}
use Rattle.nm_report.proofs.check.write_modules.Given as goal

-- the lines so far and those that are left make all
abbrev pub invariant-loop-name : goal.invariant-loop-name
invariant-loop-name l = l.out.items ++ module_lines (drop l.name-index l.names) ≡ l.initial.out.items ++ module_lines l.initial.names
