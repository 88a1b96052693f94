use Rattle.std.proofs.Common.{◌≡◌, ℕ, ◌-◌, length, slice_get}
use Rattle.std.specs.List.{list_any, range_with_len}
use Rattle.nm_validate_rules.specs.Reads.{missing_reads}
use Rattle.nm_incremental.proofs.reading.choices_read.Given as goal

abbrev pub invariant-loop-at : goal.invariant-loop-at
invariant-loop-at l =
    list_any (λ (k : ℕ). missing_reads l.schema l.path k (slice_get l.schema.choices k) l.row) (range_with_len l.at (length l.schema.choices - l.at))
    ≡ list_any (λ (k : ℕ). missing_reads l.schema l.path k (slice_get l.schema.choices k) l.row) (range_with_len 0 (length l.schema.choices))
