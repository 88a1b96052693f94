use Rattle.std.proofs.Common.{◌≡◌, ◌++◌, length}
use Rattle.nm_explain.specs.Lines.{blanks}
use Rattle.nm_explain.proofs.lines.write_blanks.Given as goal

abbrev pub invariant-loop-rest : goal.invariant-loop-rest
invariant-loop-rest l = l.out.items ++ blanks l.rest ≡ l.initial.out.items ++ blanks l.fn.text

abbrev pub decreases-loop-rest : goal.decreases-loop-rest
decreases-loop-rest l = length l.rest
