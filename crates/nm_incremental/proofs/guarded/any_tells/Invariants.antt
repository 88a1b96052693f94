use Rattle.std.proofs.Common.{◌≡◌, ℕ, drop}
use Rattle.std.specs.List.{list_any}
use Rattle.nm_validate_rules.specs.Reads.{tells}
use Rattle.nm_incremental.proofs.guarded.any_tells.Given as goal

abbrev pub invariant-loop-at : goal.invariant-loop-at
invariant-loop-at l =
    list_any (λ (x : ℕ). tells l.schema l.above x l.row) (drop l.at-index l.nodes) ≡ list_any (λ (x : ℕ). tells l.schema l.above x l.row) l.nodes
