use Rattle.std.proofs.Common.{◌≡◌, ◌≤◌, length, ℕ, ◌+◌, ◌*◌}
use Rattle.nm_yang.specs.Module.{inside}
use Rattle.nm_yang.proofs.Runs.{behind, left_at}
use Rattle.nm_yang.proofs.module.+read.Given as goal

abbrev pub decreases-statement_at : goal.decreases-statement_at
decreases-statement_at l = 3 * l.depth + 2

abbrev pub decreases-end_at : goal.decreases-end_at
decreases-end_at l = 3 * l.depth + 1

abbrev pub decreases-inside : goal.decreases-inside
decreases-inside l = 3 * l.depth

abbrev pub invariant-inside-each : goal.invariant-inside-each
invariant-inside-each l =
    (n : ℕ) × (length l.rest ≤ n) × (behind l.below.items (left_at l.depth l.fn.reader l.ending n l.rest) ≡ behind l.fn.below.items (inside l.depth l.fn.reader l.fn.bytes))
    × (length l.rest ≤ length l.fn.bytes) × (l.reader ≡ l.fn.reader)

abbrev pub decreases-inside-each : goal.decreases-inside-each
decreases-inside-each l = length l.rest
