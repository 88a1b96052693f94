use Rattle.std.proofs.Common.{◌≡◌, ℕ, drop}
use Rattle.std.specs.List.{list_any}
use Rattle.nm_validate_rules.specs.Concerns.{leaf_concerns}
use Rattle.nm_incremental.proofs.concerned.leafs_concern.Given as goal

abbrev pub invariant-loop-leaf : goal.invariant-loop-leaf
invariant-loop-leaf l =
    list_any (λ (x : ℕ). leaf_concerns l.schema x l.row) (drop l.leaf-index l.leafs) ≡ list_any (λ (x : ℕ). leaf_concerns l.schema x l.row) l.leafs
