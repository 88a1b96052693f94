use Rattle.std.proofs.Common.{◌∙◌, ◌+◌, List, ℕ, Some, map, drop, sym, ap, append-nil}
use Rattle.std.proofs.lemmas.List.{drop_all, drop_more}
use Rattle.nm_graph.specs.Value.{all_there}
use Rattle.nm_schema_keys.specs.Uniques.{unique_at}
use Rattle.nm_schema_keys.proofs.Ways.{in_front}
use Rattle.nm_schema_keys.proofs.Left.{front_step, front_none, unique_told, no_unique_told}
use Rattle.nm_schema_keys.proofs.finder.Finder.all_at.Goals as goal

pub loop-at-preserved : goal.loop-at-preserved
loop-at-preserved c =
    let finder = c.args.self.now in
    let numbers = c.args.numbers.now in
    let front : List (List (List ℕ)) = c.loop-at.all.items in
    let rest = drop (c.loop-at.at-index + 1) numbers in
    let next = drop_more numbers c.loop-at.at-index _ c.loop-at-test.true in
    let same = c.loop-at.invariant.same in
    record {
      same = c.in-Ok-Some.ensures.same ∙ same;
      uniques = λ standing used. ap (λ (all : List (List (List ℕ))). in_front all (all_there (map (unique_at finder.rows finder.groupings standing) rest))) c.in_ok-push-in-Ok-Some.ensures.items
          ∙ front_step (unique_at finder.rows finder.groupings standing) _ rest front c.in-Ok-Some.unique (unique_told c.loop-at.self finder _ _ _ same c.in-Ok-Some.ensures.unique c.in-Ok-Some.field-0-is standing used)
          ∙ ap (λ (numbers : List ℕ). in_front front (all_there (map (unique_at finder.rows finder.groupings standing) numbers))) (sym next)
          ∙ c.loop-at.invariant.uniques standing used;
    }

pub returns : goal.returns
returns c =
    let finder = c.args.self.now in
    let front : List (List (List ℕ)) = c.loop-at.all.items in
    λ standing used. ap (λ (all : List (List (List ℕ))). Some all) (sym (append-nil front))
    ∙ ap (λ (numbers : List ℕ). in_front front (all_there (map (unique_at finder.rows finder.groupings standing) numbers))) (sym (drop_all c.loop-at.at-index c.args.numbers.now c.loop-at-test.false))
    ∙ c.loop-at.invariant.uniques standing used

pub returns-in-Ok-None : goal.returns-in-Ok-None
returns-in-Ok-None c =
    let finder = c.args.self.now in
    let numbers = c.args.numbers.now in
    let front : List (List (List ℕ)) = c.loop-at.all.items in
    let rest = drop (c.loop-at.at-index + 1) numbers in
    let next = drop_more numbers c.loop-at.at-index _ c.loop-at-test.true in
    λ standing used. front_none (unique_at finder.rows finder.groupings standing) _ rest front (no_unique_told c.loop-at.self finder _ _ c.loop-at.invariant.same c.in-Ok-None.ensures.unique c.in-Ok-None.field-0-is standing used)
    ∙ ap (λ (numbers : List ℕ). in_front front (all_there (map (unique_at finder.rows finder.groupings standing) numbers))) (sym next)
    ∙ c.loop-at.invariant.uniques standing used
