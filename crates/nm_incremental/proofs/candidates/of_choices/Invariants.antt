use Rattle.std.proofs.Common.{◌≡◌, ℕ, ◌-◌, ◌++◌, length, slice_get}
use Rattle.std.specs.List.{flat_map, range_with_len}
use Rattle.nm_validate_rules.specs.Candidates.{fronts_of}
use Rattle.nm_incremental.specs.Candidates.{mandatory_at}
use Rattle.nm_incremental.proofs.candidates.of_choices.Given as goal

abbrev pub invariant-loop-at : goal.invariant-loop-at
invariant-loop-at l =
    l.paths.items ++ flat_map (λ (k : ℕ). mandatory_at l.schema (fronts_of l.row) (slice_get l.schema.choices k)) (range_with_len l.at (length l.schema.choices - l.at))
    ≡ flat_map (λ (k : ℕ). mandatory_at l.schema (fronts_of l.row) (slice_get l.schema.choices k)) (range_with_len 0 (length l.schema.choices))
