use Rattle.std.proofs.Common.{◌≡◌, ℕ, suc, ◌-◌, length, take}
use Rattle.std.specs.List.{list_any, range_with_len}
use Rattle.nm_path.specs.Spelling.{node_of}
use Rattle.nm_incremental.specs.Whole.{is_cased}
use Rattle.nm_incremental.proofs.whole.passes_case.Given as goal

abbrev pub invariant-loop-count : goal.invariant-loop-count
invariant-loop-count l =
    list_any (λ (n : ℕ). is_cased l.schema (node_of l.schema (take n l.row))) (range_with_len l.count (suc (length l.row) - l.count))
    ≡ list_any (λ (n : ℕ). is_cased l.schema (node_of l.schema (take n l.row))) (range_with_len 0 (suc (length l.row)))
