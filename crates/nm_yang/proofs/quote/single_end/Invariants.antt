use Rattle.std.proofs.Common.{◌≡◌, ◌≤◌, length}
use Rattle.nm_yang.specs.Quote.{single_end}
use Rattle.nm_yang.proofs.quote.single_end.Given as goal

abbrev pub invariant-loop-rest : goal.invariant-loop-rest
invariant-loop-rest l = (single_end l.fn.reader l.fn.opener l.rest ≡ single_end l.fn.reader l.fn.opener l.fn.bytes) × (length l.rest ≤ length l.fn.bytes)

abbrev pub decreases-loop-rest : goal.decreases-loop-rest
decreases-loop-rest l = length l.rest
