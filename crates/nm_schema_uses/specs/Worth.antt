-- Values of rows, each from those of the rows that it leads to.
use Rattle.std.specs.Prelude.{◌≡◌, ◌<◌, ℕ, zero, suc, List, length, map, Option, None, slice_index_or}
use Rattle.nm_graph.specs.Value.{Step, strict}

-- the value of a row from those that at most so many steps make
abbrev pub worth_within : {Y : Type 0} → Step Y → (ℕ → List ℕ) → ℕ → ℕ → Option Y
worth_within step next zero i = None
worth_within step next (suc steps) i = step i (map (worth_within step next steps) (next i))

-- the value of a row; no value takes more steps than there are rows, and a row that leads to a cycle has none (this project's own)
unfoldable pub worth_of : {Y : Type 0} → (ℕ → List Y → Option Y) → (ℕ → List ℕ) → ℕ → ℕ → Option Y
worth_of step next count i = worth_within (strict step) next count i

-- each row has its value
pub record AreWorth {Y : Type 0} (value : ℕ → Option Y) (count : ℕ) (values : List (Option Y)) : Type 0 where
  pub size : length values ≡ count
  pub each : (i : ℕ) → i < count → slice_index_or values i None ≡ value i
