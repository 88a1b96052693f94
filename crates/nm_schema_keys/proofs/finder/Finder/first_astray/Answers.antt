use Rattle.std.proofs.Common.{◌∙◌, ◌+◌, List, ℕ, Bor, Bool, map, drop, sym, ap}
use Rattle.std.specs.List.{find}
use Rattle.std.proofs.lemmas.List.{drop_all, drop_more}
use Rattle.nm_schema_keys.specs.Uniques.{leads_nowhere}
use Rattle.nm_schema_keys.proofs.Left.{find_step, leads_told}
use Rattle.nm_schema_keys.proofs.finder.Finder.first_astray.Goals as goal

pub loop-word-preserved : goal.loop-word-preserved
loop-word-preserved c =
    let now : Bor (List ℕ) → List ℕ = λ t. t.now in
    let start = c.args.start in
    let astray : List ℕ → Bool = leads_nowhere c.args.self.now.rows c.args.self.now.groupings start.loses start.owner start.list in
    let rest = drop (c.loop-word.word-index + 1) c.args.words.now in
    let next = drop_more c.args.words.now c.loop-word.word-index _ c.loop-word-test.true in
    let same = c.loop-word.invariant.same in
    record {
      same = c.in-Ok-false.ensures.same ∙ same;
      word = find_step astray _ (map now rest) (leads_told c.loop-word.self c.args.self.now _ _ _ _ _ same c.in-Ok-false.ensures.astray c.in-Ok-false.field-0-test)
          ∙ ap (λ (words : List (Bor (List ℕ))). find astray (map now words)) (sym next)
          ∙ c.loop-word.invariant.word;
    }

pub returns-clause-word : goal.returns-clause-word
returns-clause-word c =
    let start = c.args.start in
    ap (λ (words : List (Bor (List ℕ))). find (leads_nowhere c.args.self.now.rows c.args.self.now.groupings start.loses start.owner start.list) (map (λ (t : Bor (List ℕ)). t.now) words)) (sym (drop_all c.loop-word.word-index c.args.words.now c.loop-word-test.false))
    ∙ c.loop-word.invariant.word
