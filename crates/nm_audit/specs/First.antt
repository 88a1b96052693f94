-- Going through lists for the first thing that fails (this project's own).
use Rattle.std.specs.Prelude.{◌≡◌, ◌<◌, ◌⊎◌, ℕ, List, length, slice_get, Option, Some, None}
use Rattle.nm_audit.specs.declared.mismatch.Mismatch.{Mismatch}

-- ---- one thing

-- what is told of one thing: nothing where it fits, and else how it fails
abbrev pub Judged : Type 0 → (Mismatch → Type 0) → Option Mismatch → Type 0
Judged Fits Fails None = Fits
Judged Fits Fails (Some mismatch) = Fails mismatch

-- ---- a list

module _ {T : Type 0} (Fits : ℕ → T → Type 0) where
  -- so many of a list fit, from its front, each judged with its place, from 0
  abbrev pub FitTo : List T → ℕ → Type 0
  FitTo xs n = (place : ℕ) (it : T) → place < n → slice_get xs place ≡ Some it → Fits place it

module _ {T : Type 0} (Fits : ℕ → T → Type 0) (Fails : ℕ → T → Mismatch → Type 0) where
  -- the first of a list that fails, and how
  pub record IsFirst (xs : List T) (mismatch : Mismatch) : Type 0 where
    pub place : ℕ
    pub it : T
    pub stands : slice_get xs place ≡ Some it
    pub before : FitTo Fits xs place
    pub fails : Fails place it mismatch

  -- what is found in a list: nothing where all fit, and else the first that fails
  abbrev pub Finds : List T → Option Mismatch → Type 0
  Finds xs None = FitTo Fits xs (length xs)
  Finds xs (Some mismatch) = IsFirst xs mismatch

-- ---- one list after another

-- what is found in two goes: what the first finds, and where it finds nothing what the second does
abbrev pub Then : (Option Mismatch → Type 0) → (Option Mismatch → Type 0) → Option Mismatch → Type 0
Then First Second None = First None × Second None
Then First Second (Some mismatch) = First (Some mismatch) ⊎ (First None × Second (Some mismatch))
