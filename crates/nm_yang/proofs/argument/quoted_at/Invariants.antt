use Rattle.std.proofs.Common.{◌≡◌, ◌≤◌, ℕ, length}
use Rattle.nm_yang.specs.Page.{with_front}
use Rattle.nm_yang.specs.Argument.{more_at, quoted_at}
use Rattle.nm_yang.proofs.argument.quoted_at.Given as goal

abbrev pub invariant-joined : goal.invariant-joined
invariant-joined l = (n : ℕ) × (length l.rest ≤ n) × (with_front l.out.items (more_at l.fn.reader l.fn.ending n l.rest) ≡ with_front l.fn.out.items (quoted_at l.fn.reader l.fn.ending l.fn.bytes)) × (length l.rest ≤ length l.fn.bytes) × (l.reader ≡ l.fn.reader)

abbrev pub decreases-joined : goal.decreases-joined
decreases-joined l = length l.rest
