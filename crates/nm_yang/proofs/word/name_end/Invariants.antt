use Rattle.std.proofs.Common.{◌≡◌, ◌≤◌, length}
use Rattle.nm_yang.specs.Word.{name_end}
use Rattle.nm_yang.proofs.word.name_end.Given as goal

abbrev pub invariant-loop-rest : goal.invariant-loop-rest
invariant-loop-rest l = (name_end l.rest ≡ name_end l.fn.bytes) × (length l.rest ≤ length l.fn.bytes)

abbrev pub decreases-loop-rest : goal.decreases-loop-rest
decreases-loop-rest l = length l.rest
