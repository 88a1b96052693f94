use Rattle.std.proofs.Common.{◌≡◌, ℕ, ◌-◌, length}
use Rattle.std.specs.List.{list_any, range_with_len}
use Rattle.nm_validate_rules.specs.Guards.{front}
use Rattle.nm_validate_rules.specs.Violated.{is_path_of, first_other, children_of}
use Rattle.nm_incremental.proofs.choices.is_other_case.Given as goal

abbrev pub invariant-loop-choice : goal.invariant-loop-choice
invariant-loop-choice g l =
    let test = λ (k : ℕ). is_path_of l.path (first_other (children_of l.schema (g.M.RowMap.rows l.config) k (front l.path))) in
    list_any test (range_with_len l.choice (length l.schema.choices - l.choice)) ≡ list_any test (range_with_len 0 (length l.schema.choices))
