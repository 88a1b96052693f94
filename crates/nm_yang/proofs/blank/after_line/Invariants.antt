use Rattle.std.proofs.Common.{◌≡◌, ◌≤◌, length}
use Rattle.nm_yang.specs.Page.{Page}
use Rattle.nm_yang.specs.Blank.{skip, line}
use Rattle.nm_yang.proofs.blank.after_line.Given as goal

abbrev pub invariant-loop-rest : goal.invariant-loop-rest
invariant-loop-rest l = ((page : Page) → skip page line l.fn.bytes ≡ skip page line l.rest) × (length l.rest ≤ length l.fn.bytes)

abbrev pub decreases-loop-rest : goal.decreases-loop-rest
decreases-loop-rest l = length l.rest
