-- Loops that write a text for each number up to an end.
use Rattle.std.proofs.Common.{◌≡◌, ◌<◌, ◌≤◌, ◌+◌, ◌-◌, ◌∙◌, ℕ, zero, suc, List, ◌++◌, sym, ap, refl, length, arith, append_assoc, append-nil}
use Rattle.rand_pcg.specs.Lcg.{Lcg}
use Rattle.nm_make.specs.Drawn.{change_drawn, changes_drawn}
use Rattle.nm_make.specs.Made.{numbered}

module _ (text : ℕ → List ℕ) (number end : ℕ) where
  -- a number more
  pub one_more : (before after whole : List ℕ) → number < end → after ≡ before ++ text number
      → before ++ numbered text number (end - number) ≡ whole → after ++ numbered text (number + 1) (end - (number + 1)) ≡ whole
  unfolding numbered
  one_more before after whole lt is so_far =
      let left : suc (end - (number + 1)) ≡ end - number = omega (arith, lt) in
      ap (λ (it : List ℕ). it ++ numbered text (number + 1) (end - (number + 1))) is
      ∙ append_assoc before (text number) (numbered text (number + 1) (end - (number + 1)))
      ∙ ap (λ (more : ℕ). before ++ numbered text number more) left ∙ so_far

  -- none is left
  pub all_done : (before whole : List ℕ) → end ≤ number → before ++ numbered text number (end - number) ≡ whole → before ≡ whole
  unfolding numbered
  all_done before whole le so_far =
      let none : 0 ≡ end - number = omega (arith, le) in
      sym (append-nil before) ∙ ap (λ (more : ℕ). before ++ numbered text number more) none ∙ so_far

-- as many change sets are drawn as are asked for
pub as_many : (count : ℕ) (generator : Lcg) → length (changes_drawn count generator) ≡ count
unfolding changes_drawn
as_many zero generator = refl
as_many (suc more) generator = ap suc (as_many more (change_drawn generator).1)
