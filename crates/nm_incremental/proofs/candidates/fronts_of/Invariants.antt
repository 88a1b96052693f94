use Rattle.std.proofs.Common.{◌≡◌, ℕ, suc, ◌-◌, ◌++◌, length, map, take}
use Rattle.std.specs.List.{range_with_len}
use Rattle.nm_validate_rules.specs.Candidates.{fronts_of}
use Rattle.nm_incremental.proofs.candidates.fronts_of.Given as goal

abbrev pub invariant-loop-count : goal.invariant-loop-count
invariant-loop-count l = l.fronts.items ++ map (λ (n : ℕ). take n l.path) (range_with_len l.count (suc (length l.path) - l.count)) ≡ fronts_of l.path
