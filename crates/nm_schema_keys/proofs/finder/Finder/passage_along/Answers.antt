use Rattle.std.proofs.Common.{◌≡◌, ◌∙◌, List, [], ℕ, Bor, map, sym, ap, append-nil, arith}
use Rattle.std.proofs.lemmas.List.{nil_from_length}
use Rattle.nm_schema_keys.specs.declared.passage.Passage.TheVariants as passage
use Rattle.nm_schema_keys.specs.Uniques.{behind, passage_along}
use Rattle.nm_schema_keys.proofs.finder.Finder.passage_along.Goals as goal

pub returns-clause-passage : goal.returns-clause-passage
returns-clause-passage c =
    let start = c.args.start in
    let over : c.loop-pieces.pieces.now ≡ [] = nil_from_length c.loop-pieces.pieces.now (omega (arith, c.in_default.len_below)) in
    ap (λ (way : List ℕ). passage.Through way) (sym (append-nil c.loop-pieces.way))
    ∙ ap (λ (pieces : List (Bor (List ℕ))). behind c.loop-pieces.way (passage_along c.args.self.now.rows c.args.self.now.groupings start.loses start.owner c.loop-pieces.at (map (λ (t : Bor (List ℕ)). t.now) pieces))) (sym over)
    ∙ c.loop-pieces.invariant.passage
