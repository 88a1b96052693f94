use Rattle.std.proofs.Common.{◌≡◌, ◌≤◌, ℕ, length}
use Rattle.std.specs.Prelude.{IsUtf8}
use Rattle.nm_path.specs.Reading.{with_front, predicates_at}
use Rattle.nm_path.proofs.steps.predicates_at.Given as goal

abbrev pub invariant-predicates : goal.invariant-predicates
invariant-predicates l = (n : ℕ) × (length l.rest ≤ n) × (with_front l.all.items (predicates_at n l.rest) ≡ predicates_at (length l.text) l.text) × (length l.rest ≤ length l.text) × IsUtf8 l.rest

abbrev pub decreases-predicates : goal.decreases-predicates
decreases-predicates l = length l.rest
