use Rattle.std.proofs.Common.{◌∙◌, ◌+◌, List, ℕ, Bor, Option, Some, map, drop, sym, ap, append-nil}
use Rattle.std.proofs.lemmas.List.{drop_all, drop_more}
use Rattle.nm_graph.specs.Value.{all_there}
use Rattle.nm_schema_keys.specs.Uniques.{way_of}
use Rattle.nm_schema_keys.proofs.Ways.{in_front}
use Rattle.nm_schema_keys.proofs.Left.{front_step, front_none, way_told, no_way_told}
use Rattle.nm_schema_keys.proofs.finder.Finder.ways_along.Goals as goal

pub loop-word-preserved : goal.loop-word-preserved
loop-word-preserved c =
    let now : Bor (List ℕ) → List ℕ = λ t. t.now in
    let start = c.args.start in
    let way : List ℕ → Option (List ℕ) = way_of c.args.self.now.rows c.args.self.now.groupings start.loses start.owner start.list in
    let front : List (List ℕ) = c.loop-word.ways.items in
    let rest = drop (c.loop-word.word-index + 1) c.args.words.now in
    let next = drop_more c.args.words.now c.loop-word.word-index _ c.loop-word-test.true in
    let same = c.loop-word.invariant.same in
    record {
      same = c.in-Ok-Some.ensures.same ∙ same;
      ways = ap (λ (ways : List (List ℕ)). in_front ways (all_there (map way (map now rest)))) c.in_ok-push-in-Ok-Some.ensures.items
          ∙ front_step way _ (map now rest) front c.in-Ok-Some.way (way_told c.loop-word.self c.args.self.now _ _ _ _ _ _ same c.in-Ok-Some.ensures.way c.in-Ok-Some.field-0-is)
          ∙ ap (λ (words : List (Bor (List ℕ))). in_front front (all_there (map way (map now words)))) (sym next)
          ∙ c.loop-word.invariant.ways;
    }

pub returns-clause-ways : goal.returns-clause-ways
returns-clause-ways c =
    let now : Bor (List ℕ) → List ℕ = λ t. t.now in
    let start = c.args.start in
    let way : List ℕ → Option (List ℕ) = way_of c.args.self.now.rows c.args.self.now.groupings start.loses start.owner start.list in
    let front : List (List ℕ) = c.loop-word.ways.items in
    ap (λ (ways : List (List ℕ)). Some ways) (sym (append-nil front))
    ∙ ap (λ (words : List (Bor (List ℕ))). in_front front (all_there (map way (map now words)))) (sym (drop_all c.loop-word.word-index c.args.words.now c.loop-word-test.false))
    ∙ c.loop-word.invariant.ways

pub returns-in-Ok-None-clause-ways : goal.returns-in-Ok-None-clause-ways
returns-in-Ok-None-clause-ways c =
    let now : Bor (List ℕ) → List ℕ = λ t. t.now in
    let start = c.args.start in
    let way : List ℕ → Option (List ℕ) = way_of c.args.self.now.rows c.args.self.now.groupings start.loses start.owner start.list in
    let front : List (List ℕ) = c.loop-word.ways.items in
    let rest = drop (c.loop-word.word-index + 1) c.args.words.now in
    let next = drop_more c.args.words.now c.loop-word.word-index _ c.loop-word-test.true in
    front_none way _ (map now rest) front (no_way_told c.loop-word.self c.args.self.now _ _ _ _ _ c.loop-word.invariant.same c.in-Ok-None.ensures.way c.in-Ok-None.field-0-is)
    ∙ ap (λ (words : List (Bor (List ℕ))). in_front front (all_there (map way (map now words)))) (sym next)
    ∙ c.loop-word.invariant.ways
