use Rattle.std.proofs.Common.{◌≡◌, ◌≤◌, ◌+◌, ◌*◌, length}
use Rattle.nm_yang.specs.Page.{column_from}
use Rattle.nm_yang.proofs.reader.columns.Given as goal

abbrev pub invariant-loop-rest : goal.invariant-loop-rest
invariant-loop-rest l = (column_from l.column l.rest ≡ column_from l.fn.start l.fn.bytes) × (l.column + 8 * length l.rest ≤ l.fn.start + 8 * length l.fn.bytes)

abbrev pub decreases-loop-rest : goal.decreases-loop-rest
decreases-loop-rest l = length l.rest
