use Rattle.std.proofs.Common.{◌≡◌, List, ℕ, Bor, map, drop}
use Rattle.nm_schema_typing.specs.Leafref.{nodes_named, behind}
use Rattle.nm_schema_typing.proofs.leafref.nodes_named.Given as goal

-- the nodes so far, before those of the pieces that are left
abbrev pub invariant-loop-piece : goal.invariant-loop-piece
invariant-loop-piece l = behind l.nodes.items (nodes_named (map (λ (piece : Bor (List ℕ)). piece.now) (drop l.piece-index l.pieces))) ≡ nodes_named (map (λ (piece : Bor (List ℕ)). piece.now) l.pieces)
