use Rattle.std.proofs.Common.{◌≡◌, List, ℕ, Bor, eqb, map, take}
use Rattle.std.specs.List.{slice_split, flat_map}
use Rattle.nm_schema_keys.proofs.words.pieces_each.Given as goal

abbrev pub invariant-loop-text : goal.invariant-loop-text
invariant-loop-text l = map (λ (t : Bor (List ℕ)). t.now) l.all.items ≡ flat_map (λ t. slice_split (λ b. eqb b l.mark) t) (map (λ (t : Bor (List ℕ)). t.now) (take l.text-index l.texts))
