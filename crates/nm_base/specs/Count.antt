-- Counts of a u64, and what it is that one of them rose.
use Rattle.std.specs.Prelude.{ℕ, ◌+◌, ◌-◌, ◌^◌, ◌≤◌, min}

-- a count after one more, which stays at the greatest number of a u64 (this project's own)
abbrev pub raised : ℕ → ℕ
raised count = min (count + 1) (2 ^ 64 - 1)

-- a count rose from before to now, and one that stands at the greatest number of a u64 counts as risen (this project's own)
abbrev pub Rose : ℕ → ℕ → Type 0
Rose before now = raised before ≤ now
