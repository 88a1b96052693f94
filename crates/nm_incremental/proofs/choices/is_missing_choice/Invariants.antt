use Rattle.std.proofs.Common.{◌≡◌, ℕ, ◌-◌, length, slice_get}
use Rattle.std.specs.List.{list_any, range_with_len}
use Rattle.nm_validate_rules.specs.Violated.{is_missing}
use Rattle.nm_incremental.proofs.choices.is_missing_choice.Given as goal

abbrev pub invariant-loop-at : goal.invariant-loop-at
invariant-loop-at g l =
    let test = λ (k : ℕ). is_missing l.schema (g.M.RowMap.rows l.config) l.path k (slice_get l.schema.choices k) in
    list_any test (range_with_len l.at (length l.schema.choices - l.at)) ≡ list_any test (range_with_len 0 (length l.schema.choices))
