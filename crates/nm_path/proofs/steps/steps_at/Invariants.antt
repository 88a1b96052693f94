use Rattle.std.proofs.Common.{◌≡◌, ◌≤◌, ℕ, length}
use Rattle.std.specs.Prelude.{IsUtf8}
use Rattle.nm_path.specs.Reading.{all_with_front, steps_at}
use Rattle.nm_path.proofs.steps.steps_at.Given as goal

abbrev pub invariant-steps : goal.invariant-steps
invariant-steps l = (n : ℕ) × (length l.rest ≤ n) × (all_with_front l.all.items (steps_at n l.rest) ≡ steps_at (length l.text) l.text) × IsUtf8 l.rest

abbrev pub decreases-steps : goal.decreases-steps
decreases-steps l = length l.rest
