use Rattle.std.proofs.Common.{◌≡◌, ℕ, List, ◌-◌, length}
use Rattle.std.specs.List.{list_any, range_with_len}
use Rattle.nm_schema_tree.specs.Nodes.{uniques_at}
use Rattle.nm_validate_rules.specs.Cases.{numbers}
use Rattle.nm_validate_rules.specs.Concerns.{unique_concerns}
use Rattle.nm_incremental.proofs.concerned.concerns_uniques.Given as goal

abbrev pub invariant-loop-at : goal.invariant-loop-at
invariant-loop-at l =
    list_any (λ (x : ℕ). list_any (λ (leafs : List ℕ). unique_concerns l.schema x leafs l.row) (uniques_at l.schema.nodes x)) (range_with_len l.at (length l.schema.nodes - l.at))
    ≡ list_any (λ (x : ℕ). list_any (λ (leafs : List ℕ). unique_concerns l.schema x leafs l.row) (uniques_at l.schema.nodes x)) (numbers l.schema.nodes)
