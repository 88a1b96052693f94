use Rattle.std.proofs.Common.{◌≡◌, ℕ, suc, ◌-◌, length, take}
use Rattle.std.specs.List.{list_any, range_with_len}
use Rattle.nm_validate_rules.specs.Guards.{leads_to}
use Rattle.nm_incremental.proofs.concerned.passes.Given as goal

abbrev pub invariant-loop-count : goal.invariant-loop-count
invariant-loop-count l =
    list_any (λ (n : ℕ). leads_to l.schema l.at (take n l.row)) (range_with_len l.count (suc (length l.row) - l.count))
    ≡ list_any (λ (n : ℕ). leads_to l.schema l.at (take n l.row)) (range_with_len 0 (suc (length l.row)))
