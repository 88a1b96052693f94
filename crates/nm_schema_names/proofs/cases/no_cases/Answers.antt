use Rattle.std.proofs.Common.{◌≡◌, ◌∙◌, ◌++◌, ◌∷◌, [], ℕ, List, replicate, ap, arith}
use Rattle.std.proofs.lemmas.List.{replicate_more}
use Rattle.nm_schema_names.proofs.cases.no_cases.Goals as goal

pub loop-preserved : goal.loop-preserved
loop-preserved c = c.in_ok-push.ensures.items ∙ ap (λ (x : List (List ℕ)). c.loop.taken.items ++ x ∷ []) c.new.ensures ∙ ap (λ (l : List (List (List ℕ))). l ++ [] ∷ []) c.loop.invariant ∙ replicate_more c.loop.counter []

pub returns : goal.returns
returns c =
    let past = c.loop-test.false in
    let ends = c.loop.auto.counter-end in
    let all : c.loop.counter ≡ c.args.count = omega (arith, past, ends) in
    c.loop.invariant ∙ ap (λ n. replicate n []) all
