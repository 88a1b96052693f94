use Rattle.std.proofs.Common.{◌≡◌, ℕ, ◌-◌, length}
use Rattle.std.specs.List.{list_any, range_with_len}
use Rattle.nm_schema_tree.specs.Nodes.{reference_at}
use Rattle.nm_validate_rules.specs.Cases.{numbers}
use Rattle.nm_validate_rules.specs.Concerns.{reference_concerns}
use Rattle.nm_incremental.proofs.concerned.concerns_leafrefs.Given as goal

abbrev pub invariant-loop-at : goal.invariant-loop-at
invariant-loop-at l =
    list_any (λ (z : ℕ). reference_concerns l.schema z (reference_at l.schema.nodes z) l.row) (range_with_len l.at (length l.schema.nodes - l.at))
    ≡ list_any (λ (z : ℕ). reference_concerns l.schema z (reference_at l.schema.nodes z) l.row) (numbers l.schema.nodes)
