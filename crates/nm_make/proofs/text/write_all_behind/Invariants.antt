use Rattle.std.proofs.Common.{◌≡◌, ◌++◌, ◌-◌}
use Rattle.nm_make.specs.Made.{numbered, interfaces_behind}
use Rattle.nm_make.proofs.text.write_all_behind.Given as goal

-- what is written and what is left make all
abbrev pub invariant-loop-digit : goal.invariant-loop-digit
invariant-loop-digit l = l.out.items ++ numbered (interfaces_behind l.device l.number) l.digit (10 - l.digit) ≡ l.initial.out.items ++ numbered (interfaces_behind l.initial.device l.initial.number) 0 10
