use Rattle.std.proofs.Common.{◌≡◌, ◌≤◌, length}
use Rattle.nm_yang.specs.Blank.{skip, plain}
use Rattle.nm_yang.proofs.blank.skip.Given as goal

abbrev pub invariant-loop-rest : goal.invariant-loop-rest
invariant-loop-rest l = (skip l.fn.reader plain l.rest ≡ skip l.fn.reader plain l.fn.bytes) × (length l.rest ≤ length l.fn.bytes)

abbrev pub decreases-loop-rest : goal.decreases-loop-rest
decreases-loop-rest l = length l.rest
