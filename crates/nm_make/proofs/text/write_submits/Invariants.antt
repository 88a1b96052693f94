use Rattle.std.proofs.Common.{◌≡◌, ◌++◌, ◌-◌}
use Rattle.nm_make.specs.Made.{numbered, submit_text}
use Rattle.nm_make.proofs.text.write_submits.Given as goal

-- what is written and what is left make all
abbrev pub invariant-loop-change : goal.invariant-loop-change
invariant-loop-change l = l.out.items ++ numbered (submit_text) l.change (65 - l.change) ≡ l.initial.out.items ++ numbered submit_text 1 64
