use Rattle.std.proofs.Common.{◌≡◌, ◌≤◌, ℕ, length, false}
use Rattle.nm_yang.specs.Page.{Page}
use Rattle.nm_yang.specs.Blank.{skip, block}
use Rattle.nm_yang.proofs.blank.after_block.Given as goal

abbrev pub invariant-loop-rest : goal.invariant-loop-rest
invariant-loop-rest l = ((page : Page) (opener : ℕ) → skip page (block opener false) l.fn.bytes ≡ skip page (block opener l.starred) l.rest) × (length l.rest ≤ length l.fn.bytes)

abbrev pub decreases-loop-rest : goal.decreases-loop-rest
decreases-loop-rest l = length l.rest
