use Rattle.std.proofs.Common.{◌≡◌, ◌++◌, ◌-◌}
use Rattle.nm_make.specs.Made.{numbered, interfaces, interfaces_of}
use Rattle.nm_make.proofs.text.write_interfaces.Given as goal

-- what is written and what is left make all
abbrev pub invariant-loop-number : goal.invariant-loop-number
invariant-loop-number l = l.out.items ++ numbered (interfaces_of l.device) l.number (10 - l.number) ≡ l.initial.out.items ++ interfaces l.initial.device
