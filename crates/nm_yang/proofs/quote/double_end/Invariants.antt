use Rattle.std.proofs.Common.{◌≡◌, ◌≤◌, length, false}
use Rattle.nm_yang.specs.Quote.{double_end}
use Rattle.nm_yang.proofs.quote.double_end.Given as goal

abbrev pub invariant-loop-rest : goal.invariant-loop-rest
invariant-loop-rest l = (double_end l.fn.reader l.fn.opener l.after_backslash l.rest ≡ double_end l.fn.reader l.fn.opener false l.fn.bytes) × (length l.rest ≤ length l.fn.bytes) × (l.strict ≡ l.fn.reader.strict)

abbrev pub decreases-loop-rest : goal.decreases-loop-rest
decreases-loop-rest l = length l.rest
