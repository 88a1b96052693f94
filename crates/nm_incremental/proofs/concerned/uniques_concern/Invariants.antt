use Rattle.std.proofs.Common.{◌≡◌, ℕ, List, drop}
use Rattle.std.specs.List.{list_any}
use Rattle.nm_validate_rules.specs.Concerns.{unique_concerns}
use Rattle.nm_incremental.proofs.concerned.uniques_concern.Given as goal

abbrev pub invariant-loop-leafs : goal.invariant-loop-leafs
invariant-loop-leafs l =
    list_any (λ (leafs : List ℕ). unique_concerns l.schema l.list leafs l.row) (drop l.leafs-index l.uniques)
    ≡ list_any (λ (leafs : List ℕ). unique_concerns l.schema l.list leafs l.row) l.uniques
