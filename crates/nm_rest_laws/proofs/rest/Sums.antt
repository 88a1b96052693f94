-- Sums over numbers from one on, and what is found first among them.
use Rattle.std.proofs.Common.{◌≡◌, ◌≤◌, ◌∙◌, ℕ, zero, suc, ◌+◌, Option, Some, None, refl, arith}
use Rattle.nm_world.specs.Drain.{found_or, first_from}
use Rattle.nm_rest_laws.specs.Closing.{sum_from}

module _ (f g : ℕ → ℕ) (most : (k : ℕ) → g k ≤ f k) where
  -- who gives no more has no greater sum
  pub sum_within : (number count : ℕ) → sum_from g number count ≤ sum_from f number count
  unfolding sum_from
  sum_within number zero = omega arith
  sum_within number (suc count) = omega (arith, most number, sum_within (number + 1) count)

  module _ {A : Type 0} (find : ℕ → Option A) (x : A) (less : (k : ℕ) → find k ≡ Some x → suc (g k) ≤ f k) where
    here_or : (number : ℕ) (found rest : Option A) (a b : ℕ) → find number ≡ found → b ≤ a → (rest ≡ Some x → suc b ≤ a) → found_or found rest ≡ Some x → suc (g number + b) ≤ f number + a
    here_or number None rest a b is all later e = omega (arith, most number, later e)
    here_or number (Some y) rest a b is all later e = omega (arith, less number (is ∙ e), all)

    -- and a lesser one where what is found gives less
    pub sum_falls : (number count : ℕ) → first_from find number count ≡ Some x → suc (sum_from g number count) ≤ sum_from f number count
    unfolding first_from sum_from
    sum_falls number zero e = absurd (let none : None ≡ Some x = e in cc)
    sum_falls number (suc count) e =
        here_or number (find number) (first_from find (number + 1) count) (sum_from f (number + 1) count) (sum_from g (number + 1) count) refl (sum_within (number + 1) count)
        (sum_falls (number + 1) count) e
