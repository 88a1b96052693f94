use Rattle.std.proofs.Common.{◌∙◌, ◌+◌, ◌++◌, List, ℕ, Bor, map, drop, sym, ap, append-nil}
use Rattle.std.proofs.lemmas.List.{drop_all, drop_more}
use Rattle.nm_schema_keys.specs.declared.found.Found.{Found}
use Rattle.nm_schema_keys.specs.Keys as spec
use Rattle.nm_schema_keys.proofs.Left.{key_step, leafs_step}
use Rattle.nm_schema_keys.proofs.key.words_flaw.Goals as goal

pub loop-word-preserved : goal.loop-word-preserved
loop-word-preserved c =
    let now : Bor (List ℕ) → List ℕ = λ t. t.now in
    let leaf : List ℕ → Found = spec.key_leaf c.args.members.now.rows c.args.members.now.nodes c.args.loses c.args.owner in
    let keys : List ℕ = c.loop-word.keys in
    let rest = drop (c.loop-word.word-index + 1) c.args.words.now in
    let next = drop_more c.args.words.now c.loop-word.word-index _ c.loop-word-test.true in
    let found = c.key_leaf-found.ensures in
    record {
      flaw = key_step leaf keys c.add.new.self _ (map now rest) c.key_leaf-found.result c.in-Ok-None.field-0 found c.in-Ok-None.ensures c.in-Ok-None.field-0-is c.in-Ok.ensures
          ∙ ap (λ (words : List (Bor (List ℕ))). spec.words_flaw leaf keys (map now words)) (sym next)
          ∙ c.loop-word.invariant.flaw;
      keys = leafs_step leaf keys c.add.new.self _ (map now rest) c.key_leaf-found.result found c.in-Ok.ensures
          ∙ ap (λ (words : List (Bor (List ℕ))). keys ++ spec.leafs_named leaf (map now words)) (sym next)
          ∙ c.loop-word.invariant.keys;
    }

pub returns : goal.returns
returns c =
    let now : Bor (List ℕ) → List ℕ = λ t. t.now in
    let leaf : List ℕ → Found = spec.key_leaf c.args.members.now.rows c.args.members.now.nodes c.args.loses c.args.owner in
    let keys : List ℕ = c.loop-word.keys in
    let over = drop_all c.loop-word.word-index c.args.words.now c.loop-word-test.false in
    record {
      flaw = ap (λ (words : List (Bor (List ℕ))). spec.words_flaw leaf keys (map now words)) (sym over) ∙ c.loop-word.invariant.flaw;
      keys = λ _. sym (append-nil keys) ∙ ap (λ (words : List (Bor (List ℕ))). keys ++ spec.leafs_named leaf (map now words)) (sym over) ∙ c.loop-word.invariant.keys;
    }
