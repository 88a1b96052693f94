-- How a history grows (this project's own): it keeps what it has.
use Rattle.std.specs.Prelude.{◌≡◌, ◌≤◌, ℕ, ◌+◌, List, take, length}
use Rattle.nm_history.specs.declared.event.Noted.{Noted}

-- a history goes on with so many entries at most
pub record GrowsBy (most : ℕ) (old new : List Noted) : Type 0 where
  pub keeps : take (length old) new ≡ old
  pub more : length old ≤ length new
  pub few : length new ≤ length old + most
