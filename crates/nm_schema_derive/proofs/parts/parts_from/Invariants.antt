use Rattle.std.proofs.Common.{◌≡◌, List, ℕ, Bor, map, drop}
use Rattle.nm_schema_derive.specs.Parts.{parts_from, onto}
use Rattle.nm_schema_derive.proofs.parts.parts_from.Given as goal

-- the parts so far, before those of the pieces that are left
abbrev pub invariant-loop-piece : goal.invariant-loop-piece
invariant-loop-piece l = onto l.parts.items (parts_from l.form l.base (map (λ (piece : Bor (List ℕ)). piece.now) (drop l.piece-index l.pieces))) ≡ parts_from l.form l.base (map (λ (piece : Bor (List ℕ)). piece.now) l.pieces)
