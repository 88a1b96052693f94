use Rattle.std.proofs.Common.{◌≡◌, ℕ, ◌+◌, ◌≤◌, List, Bor, map, drop, length}
use Rattle.nm_schema_typing.specs.Leafref as spec
use Rattle.nm_schema_typing.proofs.leafref.ups.Given as goal

abbrev pub invariant-loop-piece : goal.invariant-loop-piece
invariant-loop-piece l = (l.count ≡ l.piece-index) × (spec.ups (map (λ (piece : Bor (List ℕ)). piece.now) l.pieces) ≡ l.count + spec.ups (map (λ (piece : Bor (List ℕ)). piece.now) (drop l.piece-index l.pieces)))
