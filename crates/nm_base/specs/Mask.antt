-- Masks as sets of numbers (this project's own): bit n - 1 stands for the number n.
use Rattle.std.specs.Prelude.{ℕ, ◌-◌, ◌<◌, ◌≡◌, Bool, ◌==◌, ◌||◌, ◌&&◌, not, false, true}
use Rattle.std.specs.Int.{bit_at}

-- the number n is in the mask
unfoldable pub mask_contains : ℕ → ℕ → Bool
mask_contains mask n = bit_at mask (n - 1) == 1

-- the mask new has what old has, and n
abbrev pub AddsToMask : ℕ → ℕ → ℕ → Type 0
AddsToMask old new n = (m : ℕ) → 0 < m → mask_contains new m ≡ (mask_contains old m || (m == n))

-- the mask new has what old has, but for n
abbrev pub TakesFromMask : ℕ → ℕ → ℕ → Type 0
TakesFromMask old new n = (m : ℕ) → 0 < m → mask_contains new m ≡ (mask_contains old m && not (m == n))

-- n is the least number in the mask
pub record IsLeastInMask (mask n : ℕ) : Type 0 where
  pub there : mask_contains mask n ≡ true
  pub least : (m : ℕ) → 0 < m → m < n → mask_contains mask m ≡ false
