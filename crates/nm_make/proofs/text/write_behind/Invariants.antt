use Rattle.std.proofs.Common.{◌≡◌, ◌++◌, ◌-◌}
use Rattle.nm_make.specs.Made.{numbered, interface_behind}
use Rattle.nm_make.proofs.text.write_behind.Given as goal

-- what is written and what is left make all
abbrev pub invariant-loop-digit : goal.invariant-loop-digit
invariant-loop-digit l = l.out.items ++ numbered (interface_behind l.device l.number) l.digit (10 - l.digit) ≡ l.initial.out.items ++ numbered (interface_behind l.initial.device l.initial.number) 0 10
