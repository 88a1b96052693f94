use Rattle.std.proofs.Common.{◌≡◌, ◌++◌, ◌+◌, drop}
use Rattle.nm_make.specs.Made.{change_texts}
use Rattle.nm_make.proofs.text.write_changes.Given as goal

-- what is written and what is left make all
abbrev pub invariant-loop-place : goal.invariant-loop-place
invariant-loop-place l = l.out.items ++ change_texts (l.place + 1) (drop l.place l.changes) ≡ l.initial.out.items ++ change_texts 1 l.initial.changes
